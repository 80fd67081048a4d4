-- The fresh manager of accepted settings agrees with the fresh ledger. Assumes nothing.
use Rattle.std.specs.Prelude.{◌≡◌, refl, List, [], ◌∷◌, ℕ, zero, suc, ◌+◌, ◌<◌, length, get_or}
use Rattle.std.proofs.Common.{sym, ap, ◌∙◌, subst, arith, length-append}
use Rattle.std.proofs.Math.Decide.{ℕ_discrete}
use Rattle.std.proofs.Math.ListN.{get_or-append}
use Rattle.std.proofs.lemmas.List.{get_or_at}
use Rattle.octets.specs.Number.{Octets, num_lt, octets_at_length, octets_at_octets}
use Rattle.state.specs.declared.Route.{Route}
use Rattle.state.specs.Manager.{base}
use Rattle.state.specs.SetTimes.{set_within}
use Rattle.state.specs.Within.{within}
use Rattle.settings.specs.Settings.{routes_in, sets_in, route_start, route_from, minutes_of, set_times_from, manager_from, verdict, fresh_of}
use Rattle.settings.specs.Cases.{routes_length}
use Rattle.settings.specs.Sets.{set_count_is, set_minute_is}
use Rattle.settings.proofs.Verdict.{refusal_is, accepted_right, accepted_route}
use Rattle.ledger.specs.Ledger.{line_at, no_line}
use Rattle.ledger.specs.Run.{line_from, lines_from, sets_from, ledger_from}
use Rattle.ledger.proofs.Agrees.{Agrees, AgreesLine, AgreesSets}
use Rattle.ledger.proofs.Lists.{fresh_length}

-- the lines by number
lines_length : (xs : List ℕ) (n : ℕ) → length (lines_from xs n) ≡ n
lines_length xs zero = refl
lines_length xs (suc n) = length-append (lines_from xs n) (line_from xs (route_start n) ∷ []) ∙ omega (arith, lines_length xs n)

line_from_lem : (xs : List ℕ) (n i : ℕ) → i < n → get_or (lines_from xs n) i no_line ≡ line_from xs (route_start i)
line_from_lem xs zero i h = absurd (omega arith)
line_from_lem xs (suc n) i h = go (ℕ_discrete i n) (λ k. line_from_lem xs n i k)
  where
    go : Dec (i ≡ n) → (i < n → get_or (lines_from xs n) i no_line ≡ line_from xs (route_start i)) → get_or (lines_from xs (suc n)) i no_line ≡ line_from xs (route_start i)
    go (yes p) f = get_or_at (lines_from xs n) (line_from xs (route_start n)) [] no_line i (lines_length xs n ∙ sym p) ∙ ap (λ (k : ℕ). line_from xs (route_start k)) (sym p)
    go (no p) f =
        get_or-append (lines_from xs n) (line_from xs (route_start n) ∷ []) no_line i (omega (arith, lines_length xs n)) ∙ f (omega arith)

-- and the set minutes
sets_length : (xs : List ℕ) (n : ℕ) → length (sets_from xs n) ≡ n
sets_length xs zero = refl
sets_length xs (suc n) = length-append (sets_from xs n) (minutes_of xs n (sets_in xs) ∷ []) ∙ omega (arith, sets_length xs n)

sets_from_lem : (xs : List ℕ) (n i : ℕ) → i < n → get_or (sets_from xs n) i [] ≡ minutes_of xs i (sets_in xs)
sets_from_lem xs zero i h = absurd (omega arith)
sets_from_lem xs (suc n) i h = go (ℕ_discrete i n) (λ k. sets_from_lem xs n i k)
  where
    go : Dec (i ≡ n) → (i < n → get_or (sets_from xs n) i [] ≡ minutes_of xs i (sets_in xs)) → get_or (sets_from xs (suc n)) i [] ≡ minutes_of xs i (sets_in xs)
    go (yes p) f = get_or_at (sets_from xs n) (minutes_of xs n (sets_in xs)) [] [] i (sets_length xs n ∙ sym p) ∙ ap (λ (k : ℕ). minutes_of xs k (sets_in xs)) (sym p)
    go (no p) f =
        get_or-append (sets_from xs n) (minutes_of xs n (sets_in xs) ∷ []) [] i (omega (arith, sets_length xs n)) ∙ f (omega arith)

module _ (xs : List ℕ) (o : Octets xs) (e : (fresh_of xs).refusal ≡ 0) where
  taken : verdict xs ≡ 0
  taken = sym (refusal_is xs) ∙ e

  line_agrees : (store : List ℕ) (b i : ℕ) → AgreesLine store b (route_from xs (route_start i)) (line_from xs (route_start i))
  line_agrees store b i =
      record {
        settings = refl;
        next = refl;
        losses = refl;
        unrouted = refl;
        file = refl;
        held =
            record {
              filter = octets_at_length 20 xs (route_start i + 2);
              octets = octets_at_octets 20 (route_start i + 2) o;
              extension = o.at (route_start i + 36);
            };
        held_next = num_lt o 4 (route_start i + 37);
      }

  sets_agree : (i : ℕ) → i < routes_in xs → AgreesSets (set_times_from xs (sets_in xs)) i (minutes_of xs i (sets_in xs))
  sets_agree i h =
      let w = within (manager_from xs (routes_in xs)) (accepted_right xs taken) in
      let low : i < 8 = omega (arith, w.few) in
      let c = set_count_is xs (sets_in xs) i low in
      let few = (set_within (set_times_from xs (sets_in xs)) (routes_in xs) w.sets i h).few in
      record { count = c; each = λ j l. set_minute_is xs (sets_in xs) i j low (omega (arith, c, few)) }

  pub fresh_agrees : (store : List ℕ) → Agrees store (manager_from xs (routes_in xs)) (ledger_from xs)
  fresh_agrees store =
      let m = manager_from xs (routes_in xs) in
      record {
        right = accepted_right xs taken;
        eight = routes_length xs (routes_in xs);
        count = sym (fresh_length xs);
        address = refl;
        sixteen = (octets_at_length 16 xs 1, octets_at_octets 16 1 o);
        bias = refl;
        time = refl;
        unrouted = refl;
        sets = λ i h. subst (AgreesSets m.set_times i) (sym (sets_from_lem xs (routes_in xs) i h)) (sets_agree i h);
        lines =
            λ i h.
            subst (λ (r : Route). AgreesLine store (base m i) r (line_at (ledger_from xs) i)) (sym (accepted_route xs taken i h))
            (subst (AgreesLine store (base m i) (route_from xs (route_start i))) (sym (line_from_lem xs (routes_in xs) i h)) (line_agrees store (base m i) i));
      }
