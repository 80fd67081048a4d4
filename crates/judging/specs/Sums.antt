-- One number of a filter: the sum of its five words. Filters with different sums are different, so that routes whose sums all differ
-- need no further look (document 01, Refusals 18: no two filters are equal). Equal sums say nothing. Assumes nothing.
use Rattle.std.specs.Prelude.{◌≡◌, refl, Bool, true, false, not, List, ℕ, ◌+◌, ◌*◌, ◌≤◌, ◌<◌, eqb, length, get_or, set, take, drop}
use Rattle.std.proofs.Common.{sym, ap, ◌∙◌, arith, lit<, get_or-set_same, get_or-set_other}
use Rattle.std.proofs.Math.Decide.{ℕ_discrete}
use Rattle.std.proofs.lemmas.Bool.{eqb-false, not-true}
use Rattle.octets.specs.Alike.{alike, alike_is}
use Rattle.refusals.specs.Tests.{both}
use Rattle.refusals.specs.Below.{all_below, below_each, below_all, below_same}
use Rattle.state.specs.declared.Route.{Route}
use Rattle.state.specs.Manager.{settings_at}
use Rattle.state.specs.Bounds.{same_filter, other_at, new_at, distinct}
use Rattle.words.specs.Words.{four_at, settings_in, route_in, manager_in}
use Rattle.words.specs.Laws.{packed_word, route_in_lem, word_in}

-- of the words that a route begins with
abbrev pub filter_sum : List ℕ → ℕ
filter_sum xs = get_or xs 0 0 + get_or xs 1 0 + get_or xs 2 0 + get_or xs 3 0 + get_or xs 4 0

-- of route i
abbrev pub sum_at : List ℕ → ℕ → ℕ
sum_at xs i = filter_sum (drop (8 + 19 * i) xs)

-- which its own words alone say
pub sum_there : (xs : List ℕ) (i : ℕ) → filter_sum (take 19 (drop (8 + 19 * i) xs)) ≡ sum_at xs i
sum_there xs i =
    let part = drop (8 + 19 * i) xs in
    λ k. word_in part 0 (lit< tt) k + word_in part 1 (lit< tt) k + word_in part 2 (lit< tt) k + word_in part 3 (lit< tt) k + word_in part 4 (lit< tt) k

-- no two of the routes below n have the same: each has none of those before it
abbrev other_as : List ℕ → ℕ → ℕ → Bool
other_as xs i j = not (eqb (sum_at xs j) (sum_at xs i))

abbrev pub new_sum_at : List ℕ → ℕ → Bool
new_sum_at xs i = all_below (other_as xs i) i

abbrev pub distinct_sums : List ℕ → ℕ → Bool
distinct_sums xs n = all_below (new_sum_at xs) n

-- Sums in a list: none of those below n is s.
abbrev pub other_sum : List ℕ → ℕ → ℕ → Bool
other_sum sums s i = not (eqb (get_or sums i 0) s)

abbrev pub new_sum : List ℕ → ℕ → ℕ → Bool
new_sum sums s n = all_below (other_sum sums s) n

-- those of the routes below n stand there in their places
abbrev pub SumsOf : List ℕ → List ℕ → ℕ → Type 0
SumsOf xs sums n = (i : ℕ) → i < n → get_or sums i 0 ≡ sum_at xs i

-- one route's sum more
pub sums_more : (xs sums : List ℕ) (n s : ℕ) → n < length sums → s ≡ sum_at xs n → SumsOf xs sums n → SumsOf xs (set sums n s) (n + 1)
sums_more xs sums n s l e h i k = go (ℕ_discrete i n)
  where
    go : Dec (i ≡ n) → get_or (set sums n s) i 0 ≡ sum_at xs i
    go (yes p) = rw p (get_or-set_same sums n s 0 l ∙ e)
    go (no p) = get_or-set_other sums n i s 0 p ∙ h i (omega arith)

-- a route's sum among those before it
pub sum_among : (xs sums : List ℕ) (i s : ℕ) → s ≡ sum_at xs i → SumsOf xs sums i → new_sum sums s i ≡ new_sum_at xs i
sum_among xs sums i s e h = below_same (other_sum sums s) (other_as xs i) i (λ j l. λ k. not (eqb (h j l k) (e k)))

-- The same filter has the same sum.
abbrev sum_in : List ℕ → ℕ
sum_in filter = four_at filter 0 + four_at filter 4 + four_at filter 8 + four_at filter 12 + four_at filter 16

sum_in_lem : (xs : List ℕ) → sum_in (settings_in xs).filter ≡ filter_sum xs
sum_in_lem xs =
    λ i. packed_word (get_or xs 0 0) i + packed_word (get_or xs 1 0) i + packed_word (get_or xs 2 0) i + packed_word (get_or xs 3 0) i + packed_word (get_or xs 4 0) i

same_sum : (xs ys : List ℕ) → same_filter (settings_in xs) (settings_in ys) ≡ true → filter_sum xs ≡ filter_sum ys
unfolding same_filter
same_sum xs ys e =
    let a = settings_in xs in
    let b = settings_in ys in
    let t = both (eqb a.octets b.octets) (alike a.filter b.filter 20) e in
    sym (sum_in_lem xs) ∙ ap sum_in (alike_is a.filter b.filter refl t.1) ∙ sum_in_lem ys

other_filter : (xs ys : List ℕ) → (filter_sum xs ≡ filter_sum ys → ⊥) → not (same_filter (settings_in xs) (settings_in ys)) ≡ true
other_filter xs ys h = go (same_filter (settings_in xs) (settings_in ys)) refl
  where
    go : (b : Bool) → same_filter (settings_in xs) (settings_in ys) ≡ b → not b ≡ true
    go true e = absurd (h (same_sum xs ys e))
    go false e = refl

settings_of : (xs : List ℕ) (i : ℕ) → i < 8 → settings_at (manager_in xs) i ≡ settings_in (drop (8 + 19 * i) xs)
unfolding route_in
settings_of xs i h = ap (λ (r : Route). r.settings) (route_in_lem xs i h)

-- So where no two sums are equal no two filters are.
apart : (xs : List ℕ) (i j : ℕ) → i < 8 → j < 8 → other_as xs i j ≡ true → other_at (manager_in xs) (settings_at (manager_in xs) i) j ≡ true
apart xs i j hi hj e =
    (λ k. not (same_filter (settings_of xs j hj k) (settings_of xs i hi k)))
    ∙ other_filter (drop (8 + 19 * j) xs) (drop (8 + 19 * i) xs) (eqb-false (sum_at xs j) (sum_at xs i) (not-true (eqb (sum_at xs j) (sum_at xs i)) e))

new_filter : (xs : List ℕ) (i : ℕ) → i < 8 → new_sum_at xs i ≡ true → new_at (manager_in xs) i ≡ true
new_filter xs i h e = below_all (other_at (manager_in xs) (settings_at (manager_in xs) i)) i (λ j l. apart xs i j h (omega arith) (below_each (other_as xs i) i e j l))

pub sums_distinct : (xs : List ℕ) (n : ℕ) → n ≤ 8 → distinct_sums xs n ≡ true → distinct (manager_in xs) n ≡ true
sums_distinct xs n most e = below_all (new_at (manager_in xs)) n (λ i h. new_filter xs i (omega arith) (below_each (new_sum_at xs) n e i h))

-- One route has none to be equal to.
pub one_distinct : (xs : List ℕ) (n : ℕ) → n < 2 → distinct (manager_in xs) n ≡ true
one_distinct xs n h = below_all (new_at (manager_in xs)) n (λ i l. ap (new_at (manager_in xs)) {x = i} {y = 0} (omega arith))
