-- Losses (document 01, Routing and loss): when a routed record is lost, the lost indicator, and what an indicator says by
-- clause 6.1.1.11 of document 000, apart from the formula. n is the number of known losses, those counted in the file's time; t is
-- the number of records truly lost in it; u is that an unrouted record came in it, which may have been one for this file. So n is
-- at most t, and without u it is t. The clause has six cases. Each says two things: how many were counted, and whether that count
-- is complete.
--     0            n = 0              complete: no u             so t = 0
--     1 to 126     n = octet          unknown whether more: u    so octet ≤ t
--     127          127 ≤ n            unknown whether more: u    so 127 ≤ t
--     128          n = 0              unknown whether more: u    so some record was lost, the unrouted one, and nothing of t
--     129 to 254   n = octet - 128    complete: no u             so t = octet - 128
--     255          127 ≤ n            complete: no u             so t = n, and 127 ≤ t
-- The octet that the formula gives is true (`indicator_true`), and no other octet is (`says_only`): proofs/Indicator.antt.
use Rattle.std.specs.Prelude.{◌≡◌, Bool, true, false, cond, ◌||◌, ℕ, ◌+◌, ◌-◌, ◌≤◌, min, eqb, ltb}
use Rattle.record.specs.declared.Release.{Release}
use Rattle.record.specs.Release.{header_length}
use Rattle.state.specs.Size.{alone_size}

-- *lost*: the mark is 1, the body exceeds 65,534, or a file holding the record alone exceeds the size limit
abbrev pub lost : ℕ → ℕ → ℕ → Release → ℕ → Bool
lost limit filter mark r body = eqb mark 1 || ltb 65534 body || ltb limit (alone_size filter r (header_length r + body))

-- the indicator of n known losses; u: an unrouted record came in their time
abbrev pub indicator : ℕ → Bool → ℕ
indicator n false = cond (eqb n 0) 0 (128 + min n 127)
indicator n true = cond (eqb n 0) 128 (min n 127)

-- the count is complete: no unrouted record came, and no more were lost than were counted
abbrev pub Complete : ℕ → ℕ → Bool → Type 0
Complete n t u = (u ≡ false) × (t ≡ n)

-- whether more were lost is unknown: an unrouted record came, and at least those that were counted were lost
abbrev pub MaybeMore : ℕ → ℕ → Bool → Type 0
MaybeMore n t u = (u ≡ true) × (n ≤ t)

-- what an octet says of n, t and u: the clause's six cases
pub record Says (octet n t : ℕ) (u : Bool) : Type 0 where
  pub none : octet ≡ 0 → (n ≡ 0) × Complete n t u
  pub least : 1 ≤ octet → octet ≤ 126 → (n ≡ octet) × MaybeMore n t u
  pub least_many : octet ≡ 127 → (127 ≤ n) × MaybeMore n t u
  pub some : octet ≡ 128 → (n ≡ 0) × MaybeMore n t u
  pub exact : 129 ≤ octet → octet ≤ 254 → (n ≡ octet - 128) × Complete n t u
  pub many : octet ≡ 255 → (127 ≤ n) × Complete n t u
