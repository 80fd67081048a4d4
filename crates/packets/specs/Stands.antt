-- What stands of a packet (document 02, ask 8; demand 1): of one that stops at a refused record just what the records before it leave by themselves;
-- so one of which none is accepted leaves words, store and output as they were, of any words, and so does one that is refused whole.
-- Assumes nothing.
use Rattle.std.specs.Prelude.{◌≡◌, refl, Bool, true, false, cond, List, [], ◌∷◌, ◌++◌, ℕ, zero, suc, take, drop}
use Rattle.std.proofs.Common.{sym, ap, ◌∙◌, subst, arith}
use Rattle.events.specs.Lent.{Left}
use Rattle.events.specs.Unchanged.{receive_unchanged}
use Rattle.packets.specs.Packet.{Delivered, wrong_packet, delivered}
use Rattle.packets.specs.Fold.{Taken, untried, before, received, take_all, listed_on, packet_on}

-- the same is left
pub record Same (t u : Taken) : Type 0 where
  pub words : t.words ≡ u.words
  pub store : t.store ≡ u.store
  pub output : t.output ≡ u.output

module _ (d : Delivered) (words store output : List ℕ) where
  abbrev x : Left
  x = received d words store output

  -- a refused record changes nothing
  refused_same : (n : ℕ) → x.answer.refusal ≡ suc n → (rest : Taken) → Same (before (suc n) x rest) (untried 0 words store output)
  refused_same n e rest =
      let u = receive_unchanged words store output d.time d.arrival d.key d.body (λ z. omega (arith, e, z)) in
      record { words = ap (λ (l : Left). l.words) u; store = ap (λ (l : Left). l.store) u; output = ap (λ (l : Left). l.output) u }

  -- an accepted one is before the others, whichever they are
  accepted_same : {t u : Taken} → Same t u → Same (before zero x t) (before zero x u)
  accepted_same s =
      record { words = s.words; store = s.store; output = ap (λ (l : List ℕ). take x.answer.octets x.output ++ l) s.output }

  -- either way, what stands is what the accepted ones leave
  abbrev others : List Delivered → Taken
  others ds = take_all ds x.words x.store (drop x.answer.octets x.output)

  -- by its refusal
  abbrev Stood : List Delivered → ℕ → Type 0
  Stood ds n = Same (before n x (others ds)) (take_all (take (before n x (others ds)).accepted (d ∷ ds)) words store output)

  stands_by : (ds : List Delivered) → Same (others ds) (others (take (others ds).accepted ds)) → (n : ℕ) → x.answer.refusal ≡ n → Stood ds n
  stands_by ds s zero e =
      subst (λ (r : ℕ). Same (before zero x (others ds)) (before r x (others (take (others ds).accepted ds)))) (sym e) (accepted_same s)
  stands_by ds s (suc n) e = refused_same n e (others ds)

-- the records before the one that stops it leave the same by themselves
pub stands : (ds : List Delivered) (words store output : List ℕ)
    → Same (take_all ds words store output) (take_all (take (take_all ds words store output).accepted ds) words store output)
stands [] words store output = record { words = refl; store = refl; output = refl }
stands (d ∷ ds) words store output =
    let x = received d words store output in
    stands_by d words store output ds (stands ds x.words x.store (drop x.answer.octets x.output)) x.answer.refusal refl

-- a packet of which no record is accepted leaves all as it was
pub none_accepted : (words store output packet : List ℕ) → (packet_on words store output packet).accepted ≡ 0
    → Same (packet_on words store output packet) (untried 0 words store output)
unfolding packet_on
none_accepted words store output packet = go (wrong_packet packet) (delivered packet)
  where
    none : (ds : List Delivered) → (take_all ds words store output).accepted ≡ 0 → Same (take_all ds words store output) (untried 0 words store output)
    none ds e =
        let s = stands ds words store output in
        let z : take_all (take (take_all ds words store output).accepted ds) words store output ≡ untried 0 words store output =
        ap (λ (k : ℕ). take_all (take k ds) words store output) e in
        record {
          words = s.words ∙ ap (λ (t : Taken). t.words) z;
          store = s.store ∙ ap (λ (t : Taken). t.store) z;
          output = s.output ∙ ap (λ (t : Taken). t.output) z;
        }

    listed : (ds : List Delivered) → (listed_on ds words store output).accepted ≡ 0 → Same (listed_on ds words store output) (untried 0 words store output)
    listed [] e = record { words = refl; store = refl; output = refl }
    listed (d ∷ ds) e = none (d ∷ ds) e

    go : (b : Bool) (ds : List Delivered) → (cond b (untried 11 words store output) (listed_on ds words store output)).accepted ≡ 0
        → Same (cond b (untried 11 words store output) (listed_on ds words store output)) (untried 0 words store output)
    go true ds e = record { words = refl; store = refl; output = refl }
    go false ds e = listed ds e
