-- The manager's refusals are the ledger's: where both agree, each condition of one list is that of the other, and 18 does not
-- apply. Assumes nothing.
use Rattle.std.specs.Prelude.{◌≡◌, refl, Bool, true, false, cond, not, List, [], ◌∷◌, ℕ, zero, suc, ◌≤◌, ◌<◌, ltb, leb, eqb, length}
use Rattle.std.proofs.Common.{sym, ◌∙◌, arith, leb-false, le-ltb}
use Rattle.std.proofs.Math.Path.{ap}
use Rattle.refusals.specs.Refusal.{Rule, ◌when◌, first}
use Rattle.state.specs.Manager.{Manager}
use Rattle.state.specs.Manager.{route_at, regions}
use Rattle.state.specs.Routing.{nobody, better, among, route_of}
use Rattle.state.specs.Bounds.{state_right}
use Rattle.events.specs.declared.Arrival.{Arrival}
use Rattle.events.specs.Rules.{allowed}
use Rattle.events.specs.Rules.{routed_to as manager_routes}
use Rattle.events.specs.Events.{open_rules}
use Rattle.state.specs.Common.{common}
use Rattle.ledger.specs.Event.{open_event, close_event, tick_event}
use Rattle.ledger.specs.Ledger.{Ledger, line_at, is_open, among_lines, routed_to, closing_reasons, is_one_of, needed_by, refusal}
use Rattle.ledger.specs.Ledger.{regions as line_regions}
use Rattle.ledger.proofs.Agrees.{Agrees}
use Rattle.ledger.proofs.Regions.{regions_same}
use Rattle.ledger.proofs.Lines.{open_same}
use Rattle.ledger.proofs.Words.{reason_same}

-- a test that is false stands for nothing
skip : (n : ℕ) (b : Bool) (rest : ℕ) → b ≡ false → cond b n rest ≡ rest
skip n b rest e = rw e

module _ {store : List ℕ} {m : Manager} {l : Ledger} (a : Agrees store m l) where
  -- the first three tests
  common_same : (n time : ℕ) (rs : List Rule) (rest : ℕ) → first rs ≡ rest
      → first (common m n time rs) ≡ cond (ltb n (line_regions l.lines)) 16 (cond (ltb 52595999 time) 4 rest)
  common_same n time rs rest e =
      skip 18 (not (state_right m)) (first ((16 when ltb n (regions m)) ∷ ((4 when ltb 52595999 time) ∷ rs))) (ap not a.right)
      ∙ (λ i. cond (ltb n (regions_same a i)) 16 (cond (ltb 52595999 time) 4 (e i)))

  -- a route that is configured has its file open in both
  opens_same : (i : ℕ) → i < m.count → (route_at m i).«open» ≡ is_open (line_at l i).current
  opens_same i h = open_same (a.lines i h)

  -- behind refusal 6 the route is configured
  configured : (i x y : ℕ) → (i < m.count → x ≡ y) → cond (leb m.count i) 6 x ≡ cond (leb (length l.lines) i) 6 y
  configured i x y f = go (leb m.count i) refl ∙ ap (λ (n : ℕ). cond (leb n i) 6 y) a.count
    where
      go : (b : Bool) → leb m.count i ≡ b → cond (leb m.count i) 6 x ≡ cond (leb m.count i) 6 y
      go true e = rw e
      go false e = ap (cond (leb m.count i) 6) (f (leb-false m.count i e))

  never : (k : ℕ) → cond {A = ℕ} (ltb k 0) 17 0 ≡ 0
  never k = skip 17 (ltb k 0) 0 (le-ltb k 0 (omega arith))

  pub open_refusal : (k time i : ℕ) → first (open_rules m (length store) time i) ≡ refusal l (length store) k (open_event time i)
  open_refusal k time i =
      common_same (length store) time ((6 when leb m.count i) ∷ (14 when (route_at m i).«open») ∷ [])
      (cond (leb (length l.lines) i) 6 (cond (is_open (line_at l i).current) 14 (cond (ltb k 0) 17 0)))
      (configured i _ _ (λ h. (λ j. cond (opens_same i h j) 14 0) ∙ ap (cond (is_open (line_at l i).current) 14) (sym (never k))))

  -- a file that closes is as long in both; the two lists speak of it only where the route is configured and open
  pub close_refusal : (k time i reason : ℕ) (size : ℕ) → (i < m.count → is_open (line_at l i).current ≡ true → size ≡ needed_by l (close_event time i reason))
      → first (common m (length store) time ((6 when leb m.count i) ∷ (7 when not (allowed reason)) ∷ (15 when not (route_at m i).«open») ∷ (17 when ltb k size) ∷ []))
      ≡ refusal l (length store) k (close_event time i reason)
  close_refusal k time i reason size f =
      common_same (length store) time ((6 when leb m.count i) ∷ (7 when not (allowed reason)) ∷ (15 when not (route_at m i).«open») ∷ (17 when ltb k size) ∷ [])
      (cond (leb (length l.lines) i) 6 (cond (not (is_one_of reason closing_reasons)) 7 (cond (not (is_open (line_at l i).current)) 15 (cond (ltb k (needed_by l (close_event time i reason))) 17 0))))
      (configured i _ _ (λ h j. cond (not (reason_same reason j)) 7 (go h (is_open (line_at l i).current) refl j)))
    where
      go : i < m.count → (b : Bool) → is_open (line_at l i).current ≡ b
          → cond {A = ℕ} (not (route_at m i).«open») 15 (cond (ltb k size) 17 0) ≡ cond (not (is_open (line_at l i).current)) 15 (cond (ltb k (needed_by l (close_event time i reason))) 17 0)
      go h true e = λ j. cond (not (opens_same i h j)) 15 (cond (ltb k (f h e j)) 17 0)
      go h false e = rw (opens_same i h, e)

  pub tick_refusal : (k time size : ℕ) → size ≡ needed_by l (tick_event time)
      → first (common m (length store) time ((17 when ltb k size) ∷ [])) ≡ refusal l (length store) k (tick_event time)
  tick_refusal k time size e =
      common_same (length store) time ((17 when ltb k size) ∷ []) (cond (ltb k (needed_by l (tick_event time))) 17 0) (λ j. cond (ltb k (e j)) 17 0)

  -- Routing goes by the settings alone.
  among_same : (key : List ℕ) (n : ℕ) → n ≤ m.count → among m key n ≡ among_lines l key n
  among_same key zero h = refl
  among_same key (suc n) h = λ i. better (among_same key n (omega arith) i) n ((a.lines n (omega arith)).settings i) key

  pub routes_same : (v : Arrival) (key : List ℕ) → manager_routes m v key ≡ routed_to l v key
  unfolding route_of
  routes_same v key = ap (cond (eqb v.mark 2) nobody) (among_same key m.count (omega arith) ∙ ap (among_lines l key) a.count)
