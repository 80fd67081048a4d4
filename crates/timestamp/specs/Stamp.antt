-- The public call `stamp`: the four octets of the timestamp of a minute at an offset, over every pair of numbers, refused ones too.
-- Document 01, Timestamps and Refusals (000, 6.1.1.5, which knows no refusal): 4 for a time above 52,595,999, then 2 for an offset beyond its range.
-- Document 01 orders the refusals of settings and of events only. Here 4 comes first, since an event tests its time while the offset is a setting tested before.
-- A refusal carries its number, and zeros elsewhere. Assumes nothing.
use Rattle.std.specs.Prelude.{◌≡◌, List, [], ◌∷◌, ℕ, zero, suc, ◌<◌, ◌≤◌, ltb, Result, Ok, Err}
use borrow.Author.Tests.{lt-ltb, le-ltb}
use Rattle.octets.specs.Number.{be}
use Rattle.refusals.specs.declared.Refusal.{Refusal}
use Rattle.refusals.specs.Number.{number}
use Rattle.refusals.specs.Refusal.{Rule, ◌when◌, first}
use Rattle.timestamp.specs.declared.Stamped.{Stamped}
use Rattle.timestamp.specs.Timestamp.{word_of}
use Rattle.timestamp.specs.LocalTime.{timestamp_of}

-- the refusals of the call, in order
abbrev pub stamp_rules : ℕ → ℕ → List Rule
stamp_rules minutes bias =
    (4 when ltb 52595999 minutes)
    ∷ (2 when ltb 2878 bias)
    ∷ []

abbrev pub refused : ℕ → Stamped
refused number = record { refusal = number; octets = 0 ∷ 0 ∷ 0 ∷ 0 ∷ [] }

-- the call's answer from what its code finds: octets, or why there are none
abbrev pub stamped : Result (List ℕ) Refusal → Stamped
stamped (Ok octets) = record { refusal = 0; octets = octets }
stamped (Err r) = refused (number r)

-- the octets of the timestamp's word, most significant first
abbrev pub stamp_octets : ℕ → ℕ → List ℕ
stamp_octets minutes bias = be 4 (word_of (timestamp_of minutes bias))

abbrev settle : ℕ → Stamped → Stamped
settle zero done = done
settle (suc n) done = refused (suc n)

unfoldable pub stamp_of : ℕ → ℕ → Stamped
stamp_of minutes bias = settle (first (stamp_rules minutes bias)) (record { refusal = 0; octets = stamp_octets minutes bias })

module _ (minutes bias : ℕ) where
  pub stamp_late : 52595999 < minutes → stamp_of minutes bias ≡ refused 4
  unfolding stamp_of
  stamp_late a = rw (lt-ltb _ _ a)

  module _ (a : minutes ≤ 52595999) where
    pub stamp_beyond : 2878 < bias → stamp_of minutes bias ≡ refused 2
    unfolding stamp_of
    stamp_beyond b = rw (le-ltb _ _ a, lt-ltb _ _ b)

    pub stamp_done : bias ≤ 2878 → stamp_of minutes bias ≡ record { refusal = 0; octets = stamp_octets minutes bias }
    unfolding stamp_of
    stamp_done b = rw (le-ltb _ _ a, le-ltb _ _ b)
