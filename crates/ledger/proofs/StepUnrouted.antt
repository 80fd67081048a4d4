-- One event (Steps): RECEIVE of a record that is not placed: an unrouted one is counted on every route, a lost one on
-- its own. Assumes nothing.
use Rattle.std.specs.Prelude.{◌≡◌, refl, true, List, [], ◌∷◌, ℕ, zero, suc, ◌+◌, ◌≤◌, ◌<◌, length, get_or}
use Rattle.std.proofs.Common.{sym, ap, ◌∙◌, arith, length-set, get_or-set_same, get_or-set_other}
use Rattle.std.proofs.Math.Decide.{ℕ_discrete}
use Rattle.octets.specs.Splice.{splice_nil}
use Rattle.state.specs.declared.Route.{Route}
use Rattle.state.specs.Manager.{Manager}
use Rattle.state.specs.Manager.{no_route, route_at, settings_at}
use Rattle.state.specs.Bounds.{route_right, state_right}
use Rattle.state.specs.Within.{RouteWithin, within_route, within, right_within}
use Rattle.state.specs.Keep.{base_kept, within_kept, route_later}
use Rattle.events.specs.Rules.{lost_route, noted_route}
use Rattle.events.specs.Events.{answered}
use Rattle.events.specs.Receive.{noted, unrouted, lost_at}
use Rattle.ledger.specs.Ledger.{Line, Ledger, no_line, line_at, lost_line, noted_line, noted_lines, loses, unroutes}
use Rattle.ledger.proofs.Agrees.{AgreesLine, Agrees}
use Rattle.ledger.proofs.Lines.{lost_agrees, noted_agrees}
use Rattle.ledger.proofs.Regions.{few, settings_with, agrees_with}
use Rattle.ledger.proofs.Steps.{Holds, state_kept}

-- Routes on which it is counted, by index.
module _ (m : Manager) where
  -- the state with it counted on the routes below n
  abbrev noted_to : ℕ → Manager
  noted_to n = record { routes = noted m n; count = m.count; address = m.address; bias = m.bias; last = m.last; unrouted = m.unrouted; set_times = m.set_times }

  noted_length : (n : ℕ) → length (noted m n) ≡ length m.routes
  noted_length zero = refl
  noted_length (suc n) = length-set (noted m n) n (noted_route (route_at m n)) ∙ noted_length n

  noted_settings : (n j : ℕ) → settings_at (noted_to n) j ≡ settings_at m j
  noted_settings zero j = refl
  noted_settings (suc n) j = settings_with (noted_to n) n (noted_route (route_at m n)) (sym (noted_settings n n)) j ∙ noted_settings n j

  noted_at : (n j : ℕ) → j < n → n ≤ length m.routes → get_or (noted m n) j no_route ≡ noted_route (route_at m j)
  noted_at zero j h k = absurd (omega arith)
  noted_at (suc n) j h k =
      elim (ℕ_discrete j n) [
        | yes e ↦ rw e (get_or-set_same (noted m n) n (noted_route (route_at m n)) no_route (omega (arith, noted_length n)))
        | no e ↦ get_or-set_other (noted m n) n j (noted_route (route_at m n)) no_route e ∙ noted_at n j (omega arith) (omega arith)
      ]

-- and lines
lines_length : (xs : List Line) → length (noted_lines xs) ≡ length xs
lines_length [] = refl
lines_length (x ∷ xs) = ap suc (lines_length xs)

lines_at : (xs : List Line) (j : ℕ) → j < length xs → get_or (noted_lines xs) j no_line ≡ noted_line (get_or xs j no_line)
lines_at [] j h = absurd (omega arith)
lines_at (x ∷ xs) zero h = refl
lines_at (x ∷ xs) (suc j) h = lines_at xs j (omega arith)

line_at_lem : {store : List ℕ} {b b' : ℕ} {r r' : Route} {x x' : Line} → b ≡ b' → r ≡ r' → x ≡ x' → AgreesLine store b' r' x' → AgreesLine store b r x
line_at_lem p q e a = rw (p, q, e) a

-- no counter is judged
noted_within : {t : ℕ} {r : Route} → RouteWithin t r → RouteWithin t (noted_route r)
noted_within w = record { settings = w.settings; file = w.file }

lost_within : {t : ℕ} {r : Route} → RouteWithin t r → RouteWithin t (lost_route r)
lost_within w = record { settings = w.settings; file = w.file }

module _ {store : List ℕ} {m : Manager} {l : Ledger} (a : Agrees store m l) (output : List ℕ) (t : ℕ) (later : m.last ≤ t) (most : t ≤ 52595999) where
  there : m.count ≤ length m.routes
  there = omega (arith, a.eight, few a)

  abbrev noted_state : Manager
  noted_state = record { routes = noted m m.count; count = m.count; address = m.address; bias = m.bias; last = t; unrouted = m.unrouted + 1; set_times = m.set_times }

  route_noted : (j : ℕ) → j < m.count → route_at noted_state j ≡ noted_route (route_at m j)
  route_noted j h = noted_at m m.count j h there

  state_noted : state_right noted_state ≡ true
  state_noted =
      let w = within m a.right in
      right_within noted_state
      (within_kept m noted_state (noted_settings m m.count) w refl refl refl most (λ j h. rw (route_noted j h) (noted_within (route_later (w.routes j h) later))))

  agrees_noted : Agrees store noted_state (unroutes l t).ledger
  agrees_noted =
      let c = a.count in
      record {
        right = state_noted;
        eight = noted_length m m.count ∙ a.eight;
        count = c ∙ sym (lines_length l.lines);
        address = a.address;
        sixteen = a.sixteen;
        bias = a.bias;
        time = refl;
        unrouted = ap (λ (n : ℕ). n + 1) a.unrouted;
        sets = a.sets;
        lines = λ j h. line_at_lem (base_kept m noted_state (noted_settings m m.count) j) (route_noted j h) (lines_at l.lines j (omega arith)) (noted_agrees (a.lines j h));
      }

  pub unrouted_holds : {k n : ℕ} → k ≡ n → Holds store output (unrouted m store output t k) (answered 4 255 0 0 n) (unroutes l t)
  unrouted_holds same =
      record { answers = ap (answered 4 255 0 0) same; agrees = agrees_noted; long = refl; writes = sym (splice_nil output 0); room = omega arith; right = tt }

  pub lost_holds : (i : ℕ) → i < m.count → {k n : ℕ} → k ≡ n → Holds store output (lost_at m store output t i k) (answered 3 i 0 0 n) (loses l t i)
  lost_holds i h same =
      let right : route_right t (lost_route (route_at m i)) ≡ true = within_route t (lost_route (route_at m i)) (lost_within (route_later ((within m a.right).routes i h) later)) in
      record {
        answers = ap (answered 3 i 0 0) same;
        agrees =
            agrees_with a i (lost_route (route_at m i)) (lost_line (line_at l i)) t h (lost_agrees (a.lines i h)) refl
            (state_kept a i (lost_route (route_at m i)) t h refl right later most) (λ j k z. a.lines j k);
        long = refl;
        writes = sym (splice_nil output 0);
        room = omega arith;
        right = tt;
      }
