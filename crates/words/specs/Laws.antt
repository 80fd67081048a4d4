-- Words and the state that they stand for determine each other (Words): of any 360 words the state's words are these again, and of any
-- state whose packed fields have room the words' state is that state. What an event changes of a route is one splice.
-- Assumes nothing.
use Rattle.std.specs.Prelude.{◌≡◌, refl, Bool, true, false, cond, ◌&&◌, List, [], ◌∷◌, ◌++◌, ℕ, zero, suc, ◌+◌, ◌-◌, ◌*◌, ◌≤◌, ◌<◌, ltb, eqb, length, get_or, set, take}
use Rattle.std.proofs.Math.Path.{sym, ap}
use Rattle.std.proofs.Common.{◌∙◌, subst, zero-add, suc-add, length-set, length-drop, get_or-take, lit<, get_or-set_same, get_or-set_other, lt-ltb, le-ltb, leb-true, le-leb, eqb-true, eq-eqb}
use native.Mathlib.Omega.{arith}
use Rattle.std.proofs.Math.Decide.{dec_lt, ℕ_discrete}
use Rattle.std.proofs.Math.ListN.{drop}
use Rattle.std.proofs.Math.Seq.{drop-drop, take-length}
use Rattle.std.proofs.lemmas.Bool.{lt-leb}
use Rattle.refusals.specs.Tests.{both}
use Rattle.octets.specs.Alike.{alike, alike_is, alike_self}
use Rattle.octets.specs.Number.{Octets, octets_at_lem, octets_all}
use Rattle.octets.specs.Splice.{splice, splice_length, splice_drop}
use Rattle.record.specs.declared.Release.{Release}
use Rattle.state.specs.declared.RouteSettings.{RouteSettings}
use Rattle.state.specs.declared.Route.{Route}
use Rattle.state.specs.declared.Node.{Node}
use Rattle.state.specs.Manager.{Manager}
use Rattle.state.specs.Manager.{no_route, route_at, settings_at, node_of, with_route, with_time}
use Rattle.state.specs.Bounds.{same_filter}
use Rattle.words.specs.Words.{packed, octet1, octet2, octet3, octet4, flagged, flag_of, rest_of, release_in, octets_in, filter_in, address_in, settings_in, file_in, route_in, routes_in, manager_in, with_release, four_at, fixed_words, changing_words, route_words, routes_words, node_words, words_of}

-- Four octets.
pub packed_word : (w : ℕ) → packed (octet1 w) (octet2 w) (octet3 w) (octet4 w) ≡ w
packed_word w = omega arith

module _ (a b c d : ℕ) (hb : b < 256) (hc : c < 256) (hd : d < 256) where
  pub octet1_packed : octet1 (packed a b c d) ≡ a
  octet1_packed = omega arith

  pub octet2_packed : octet2 (packed a b c d) ≡ b
  octet2_packed = omega arith

  pub octet3_packed : octet3 (packed a b c d) ≡ c
  octet3_packed = omega arith

  pub octet4_packed : octet4 (packed a b c d) ≡ d
  octet4_packed = omega arith

-- A place in a filter as one in a word, and the tests of a word's four octets.
pub shifted : (d r n : ℕ) → ltb (d + r) n ≡ ltb r (n - d)
shifted d r n = go (dec_lt (d + r) n)
  where
    go : Dec (d + r < n) → ltb (d + r) n ≡ ltb r (n - d)
    go (yes h) = lt-ltb (d + r) n h ∙ sym (lt-ltb r (n - d) (omega arith))
    go (no h) = le-ltb (d + r) n (omega arith) ∙ sym (le-ltb r (n - d) (omega arith))

pub regroup : (x a b c d : Bool) → ((((x && a) && b) && c) && d) ≡ (x && (a && (b && (c && d))))
regroup false a b c d = refl
regroup true false b c d = refl
regroup true true false c d = refl
regroup true true true c d = refl

-- Bit 31.
pub flagged_word : (w : ℕ) → flagged (flag_of w) (rest_of w) ≡ w
flagged_word w = go (flag_of w) refl
  where
    go : (b : Bool) → flag_of w ≡ b → flagged b (cond b (w - 2147483648) w) ≡ w
    go true e = let h = leb-true 2147483648 w e in omega arith
    go false e = refl

module _ (n : ℕ) (h : n < 2147483648) where
  pub flag_flagged : (b : Bool) → flag_of (flagged b n) ≡ b
  flag_flagged true = le-leb 2147483648 (n + 2147483648) (omega arith)
  flag_flagged false = lt-leb 2147483648 n h

  pub rest_flagged : (b : Bool) → rest_of (flagged b n) ≡ n
  rest_flagged true =
      let e : n + 2147483648 - 2147483648 ≡ n = omega arith in
      ap (λ (f : Bool). cond f (n + 2147483648 - 2147483648) (n + 2147483648)) (flag_flagged true) ∙ e
  rest_flagged false = ap (λ (f : Bool). cond f (n - 2147483648) n) (flag_flagged false)

-- The words of what words say are these words.
pub words_route : (xs : List ℕ) → 19 ≤ length xs → route_words (route_in xs) (drop 19 xs) ≡ xs
unfolding route_in
words_route xs h =
    (λ i.
    packed_word (get_or xs 0 0) i
    ∷ packed_word (get_or xs 1 0) i
    ∷ packed_word (get_or xs 2 0) i
    ∷ packed_word (get_or xs 3 0) i
    ∷ packed_word (get_or xs 4 0) i
    ∷ packed_word (get_or xs 5 0) i
    ∷ get_or xs 6 0
    ∷ get_or xs 7 0
    ∷ get_or xs 8 0
    ∷ get_or xs 9 0
    ∷ get_or xs 10 0
    ∷ get_or xs 11 0
    ∷ get_or xs 12 0
    ∷ flagged_word (get_or xs 13 0) i
    ∷ get_or xs 14 0
    ∷ packed_word (get_or xs 15 0) i
    ∷ packed_word (get_or xs 16 0) i
    ∷ get_or xs 17 0
    ∷ get_or xs 18 0
    ∷ drop 19 xs)
    ∙ octets_at_lem 19 xs 0 (omega arith)

-- n routes on
further : (n : ℕ) (xs : List ℕ) → drop (19 * n) (drop 19 xs) ≡ drop (19 * suc n) xs
further n xs = let e : 19 + 19 * n ≡ 19 * suc n = omega arith in drop-drop (19 * n) 19 xs ∙ ap (λ (k : ℕ). drop k xs) e

pub words_routes : (n : ℕ) (xs : List ℕ) → 19 * n ≤ length xs → routes_words (routes_in xs n) (drop (19 * n) xs) ≡ xs
words_routes zero xs e = refl
words_routes (suc n) xs e =
    ap (λ (l : List ℕ). route_words (route_in xs) (routes_words (routes_in (drop 19 xs) n) l)) (sym (further n xs))
    ∙ ap (route_words (route_in xs)) (words_routes n (drop 19 xs) (omega (arith, length-drop 19 xs)))
    ∙ words_route xs (omega arith)

pub words_words : (xs : List ℕ) → length xs ≡ 360 → words_of (manager_in xs) ≡ xs
unfolding words_of manager_in
words_words xs e =
    (λ i.
    packed_word (get_or xs 0 0) i
    ∷ packed_word (get_or xs 1 0) i
    ∷ packed_word (get_or xs 2 0) i
    ∷ packed_word (get_or xs 3 0) i
    ∷ get_or xs 4 0
    ∷ get_or xs 5 0
    ∷ get_or xs 6 0
    ∷ get_or xs 7 0
    ∷ (ap (routes_words (routes_in (drop 8 xs) 8)) (sym (drop-drop 152 8 xs)) ∙ words_routes 8 (drop 8 xs) (omega (arith, length-drop 8 xs))) i)
    ∙ octets_at_lem 8 xs 0 (omega arith)

-- A state of eight routes, and of 200 numbers for their set minutes, has 360 words.
routes_length : (rs : List Route) (rest : List ℕ) → length (routes_words rs rest) ≡ 19 * length rs + length rest
routes_length [] rest = omega arith
routes_length (r ∷ rs) rest = omega (arith, routes_length rs rest)

pub words_length : (m : Manager) → length m.routes ≡ 8 → length m.set_times ≡ 200 → length (words_of m) ≡ 360
unfolding words_of
words_length m e s = omega (arith, routes_length m.routes m.set_times, e, s)

-- The number of routes is a word.
pub count_in : (m : Manager) → (manager_in (words_of m)).count ≡ m.count
unfolding words_of manager_in
count_in m = refl

-- What has room in its words: octets in the packed places but the highest, and an opening below bit 31.
pub record HeldRelease (r : Release) : Type 0 where
  pub release : r.release < 256
  pub extension : r.extension < 256
  pub version : r.version < 256

pub record HeldRoute (r : Route) : Type 0 where
  pub filter : (length r.settings.filter ≡ 20) × Octets r.settings.filter
  pub release : HeldRelease r.settings.release
  pub opened : r.file.opened < 2147483648
  pub high : HeldRelease r.file.high
  pub low : HeldRelease r.file.low

pub record Held (m : Manager) : Type 0 where
  pub eight : length m.routes ≡ 8
  pub routes : (i : ℕ) → i < 8 → HeldRoute (route_at m i)
  pub address : (length m.address ≡ 16) × Octets m.address
  pub sets : length m.set_times ≡ 200

-- With another route it has room still, if that has; of a route that is not there nothing changes.
module _ {m : Manager} (h : Held m) where
  pub held_route : (i : ℕ) (r : Route) → (i < 8 → HeldRoute r) → Held (with_route m i r)
  held_route i r g =
      record {
        eight = length-set m.routes i r ∙ h.eight;
        routes = λ j low. go j low (ℕ_discrete j i);
        address = h.address;
        sets = h.sets;
      }
    where
      go : (j : ℕ) → j < 8 → Dec (j ≡ i) → HeldRoute (route_at (with_route m i r) j)
      go j low (yes p) = subst HeldRoute (sym (ap (λ (k : ℕ). get_or (set m.routes i r) k no_route) p ∙ get_or-set_same m.routes i r no_route (omega (arith, h.eight)))) (g (omega arith))
      go j low (no p) = subst HeldRoute (sym (get_or-set_other m.routes i j r no_route p)) (h.routes j low)

-- The state of a state's words is that state.
module _ (top : ℕ) (r : Release) (h : HeldRelease r) where
  pub top_packed : octet1 (with_release top r) ≡ top
  top_packed = octet1_packed top r.release r.extension r.version h.release h.extension h.version

  pub release_packed : release_in (with_release top r) ≡ r
  release_packed =
      λ i. record {
        release = octet2_packed top r.release r.extension r.version h.release h.extension h.version i;
        extension = octet3_packed top r.release r.extension r.version h.release h.extension h.version i;
        version = octet4_packed top r.release r.extension r.version h.release h.extension h.version i;
      }

-- four octets of a list from k on
four_octets : (xs : List ℕ) → Octets xs → (k : ℕ) (rest : List ℕ)
    → octets_in (four_at xs k) rest ≡ get_or xs k 0 ∷ get_or xs (k + 1) 0 ∷ get_or xs (k + 2) 0 ∷ get_or xs (k + 3) 0 ∷ rest
four_octets xs o k rest =
    let a = get_or xs k 0 in
    let b = get_or xs (k + 1) 0 in
    let c = get_or xs (k + 2) 0 in
    let d = get_or xs (k + 3) 0 in
    let hb = o.at (k + 1) in
    let hc = o.at (k + 2) in
    let hd = o.at (k + 3) in
    λ i. octet1_packed a b c d hb hc hd i ∷ octet2_packed a b c d hb hc hd i ∷ octet3_packed a b c d hb hc hd i ∷ octet4_packed a b c d hb hc hd i ∷ rest

filter_packed : (xs : List ℕ) → length xs ≡ 20 → Octets xs → filter_in (four_at xs 0) (four_at xs 4) (four_at xs 8) (four_at xs 12) (four_at xs 16) ≡ xs
filter_packed xs e o =
    ap (λ (l : List ℕ). octets_in (four_at xs 0) (octets_in (four_at xs 4) (octets_in (four_at xs 8) (octets_in (four_at xs 12) l)))) (four_octets xs o 16 [])
    ∙ ap (λ (l : List ℕ). octets_in (four_at xs 0) (octets_in (four_at xs 4) (octets_in (four_at xs 8) l))) (four_octets xs o 12 _)
    ∙ ap (λ (l : List ℕ). octets_in (four_at xs 0) (octets_in (four_at xs 4) l)) (four_octets xs o 8 _)
    ∙ ap (λ (l : List ℕ). octets_in (four_at xs 0) l) (four_octets xs o 4 _)
    ∙ four_octets xs o 0 _
    ∙ octets_all 20 xs e

address_packed : (xs : List ℕ) → length xs ≡ 16 → Octets xs → address_in (four_at xs 0) (four_at xs 4) (four_at xs 8) (four_at xs 12) ≡ xs
address_packed xs e o =
    ap (λ (l : List ℕ). octets_in (four_at xs 0) (octets_in (four_at xs 4) (octets_in (four_at xs 8) l))) (four_octets xs o 12 [])
    ∙ ap (λ (l : List ℕ). octets_in (four_at xs 0) (octets_in (four_at xs 4) l)) (four_octets xs o 8 _)
    ∙ ap (λ (l : List ℕ). octets_in (four_at xs 0) l) (four_octets xs o 4 _)
    ∙ four_octets xs o 0 _
    ∙ octets_all 16 xs e

pub route_words_lem : (r : Route) (rest : List ℕ) → HeldRoute r → route_in (route_words r rest) ≡ r
unfolding route_in
route_words_lem r rest h =
    λ i. record {
      settings =
          record {
            filter = filter_packed r.settings.filter h.filter.0 h.filter.1 i;
            octets = top_packed r.settings.octets r.settings.release h.release i;
            limit = r.settings.limit;
            age = r.settings.age;
            most = r.settings.most;
            flag = top_packed r.settings.flag r.file.low h.low i;
            release = release_packed r.settings.octets r.settings.release h.release i;
          };
      next = r.next;
      losses = r.losses;
      unrouted = r.unrouted;
      «open» = flag_flagged r.file.opened h.opened r.«open» i;
      file =
          record {
            sequence = r.file.sequence;
            opened = rest_flagged r.file.opened h.opened r.«open» i;
            appended = r.file.appended;
            high = release_packed r.file.format r.file.high h.high i;
            low = release_packed r.settings.flag r.file.low h.low i;
            format = top_packed r.file.format r.file.high h.high i;
            count = r.file.count;
            octets = r.file.octets;
          };
    }

pub routes_words_lem : (rs : List Route) (rest : List ℕ) → ((i : ℕ) → i < length rs → HeldRoute (get_or rs i no_route))
    → routes_in (routes_words rs rest) (length rs) ≡ rs
routes_words_lem [] rest h = refl
routes_words_lem (r ∷ rs) rest h = λ i. route_words_lem r (routes_words rs rest) (h 0 (omega arith)) i ∷ routes_words_lem rs rest (λ j l. h (suc j) (omega arith)) i

-- what stands behind the routes
behind_routes : (rs : List Route) (rest : List ℕ) → drop (19 * length rs) (routes_words rs rest) ≡ rest
behind_routes [] rest = refl
behind_routes (r ∷ rs) rest = sym (further (length rs) (route_words r (routes_words rs rest))) ∙ behind_routes rs rest

pub sets_in_lem : (m : Manager) → length m.routes ≡ 8 → (manager_in (words_of m)).set_times ≡ m.set_times
unfolding words_of manager_in
sets_in_lem m e = ap (λ (n : ℕ). drop (19 * n) (routes_words m.routes m.set_times)) (sym e) ∙ behind_routes m.routes m.set_times

pub manager_words : (m : Manager) → Held m → manager_in (words_of m) ≡ m
unfolding words_of manager_in
manager_words m h =
    λ i. record {
      routes =
          (ap (routes_in (routes_words m.routes m.set_times)) (sym h.eight)
          ∙ routes_words_lem m.routes m.set_times (λ j l. h.routes j (omega (arith, h.eight))))
          i;
      count = m.count;
      address = address_packed m.address h.address.0 h.address.1 i;
      bias = m.bias;
      last = m.last;
      unrouted = m.unrouted;
      set_times = sets_in_lem m h.eight i;
    }

-- Words stand for eight routes.
routes_count : (xs : List ℕ) (n : ℕ) → length (routes_in xs n) ≡ n
routes_count xs zero = refl
routes_count xs (suc n) = ap suc (routes_count (drop 19 xs) n)

pub routes_eight : (xs : List ℕ) → length (manager_in xs).routes ≡ 8
unfolding manager_in
routes_eight xs = routes_count (drop 8 xs) 8

-- A route of words is that of the state.
pub route_at_lem : (n : ℕ) (xs : List ℕ) (i : ℕ) → i < n → get_or (routes_in xs n) i no_route ≡ route_in (drop (19 * i) xs)
route_at_lem zero xs i h = absurd (omega arith)
route_at_lem (suc n) xs zero h = refl
route_at_lem (suc n) xs (suc i) h = route_at_lem n (drop 19 xs) i (omega arith) ∙ ap route_in (further i xs)

pub route_in_lem : (xs : List ℕ) (i : ℕ) → i < 8 → route_at (manager_in xs) i ≡ route_in (drop (8 + 19 * i) xs)
unfolding manager_in
route_in_lem xs i h = route_at_lem 8 (drop 8 xs) i h ∙ ap route_in (drop-drop (19 * i) 8 xs)

-- A splice behind a list is one into what stands there.
splice_one : (p : ℕ) (l : List ℕ) (k : ℕ) (ys : List ℕ) → splice (p ∷ l) (suc k) ys ≡ p ∷ splice l k ys
unfolding splice
splice_one p l k ys = ap (λ (j : ℕ). (p ∷ take k l) ++ ys ++ drop j (p ∷ l)) (suc-add k (length ys))

pub splice_past : (ps xs : List ℕ) (n : ℕ) (ys : List ℕ) → splice (ps ++ xs) (length ps + n) ys ≡ ps ++ splice xs n ys
splice_past [] xs n ys = ap (λ (k : ℕ). splice xs k ys) (zero-add n)
splice_past (p ∷ ps) xs n ys =
    ap (λ (k : ℕ). splice (p ∷ (ps ++ xs)) k ys) (suc-add (length ps) n)
    ∙ splice_one p (ps ++ xs) (length ps + n) ys
    ∙ ap (λ (l : List ℕ). p ∷ l) (splice_past ps xs n ys)

-- What an event changes of a route is a splice of ten words.
changed_routes : (rs : List Route) (rest : List ℕ) (i : ℕ) (r : Route) → i < length rs → r.settings ≡ (get_or rs i no_route).settings
    → routes_words (set rs i r) rest ≡ splice (routes_words rs rest) (19 * i + 9) (changing_words r [])
unfolding splice
changed_routes [] rest i r h e = absurd (omega arith)
changed_routes (q ∷ qs) rest zero r h e = ap (λ (s : RouteSettings). fixed_words s (changing_words r (routes_words qs rest))) e
changed_routes (q ∷ qs) rest (suc i) r h e =
    let k : 19 + (19 * i + 9) ≡ 19 * suc i + 9 = omega arith in
    ap (route_words q) (changed_routes qs rest i r (omega arith) e)
    ∙ sym (splice_past (route_words q []) (routes_words qs rest) (19 * i + 9) (changing_words r []))
    ∙ ap (λ (j : ℕ). splice (routes_words (q ∷ qs) rest) j (changing_words r [])) k

pub changed_words : (m : Manager) (i : ℕ) (r : Route) → i < length m.routes → r.settings ≡ settings_at m i
    → words_of (with_route m i r) ≡ splice (words_of m) (17 + 19 * i) (changing_words r [])
unfolding words_of
changed_words m i r h e =
    let head : List ℕ = node_words (node_of m) m.count (m.last ∷ m.unrouted ∷ []) in
    let k : 8 + (19 * i + 9) ≡ 17 + 19 * i = omega arith in
    ap (λ (l : List ℕ). head ++ l) (changed_routes m.routes m.set_times i r h e)
    ∙ sym (splice_past head (routes_words m.routes m.set_times) (19 * i + 9) (changing_words r []))
    ∙ ap (λ (j : ℕ). splice (head ++ routes_words m.routes m.set_times) j (changing_words r [])) k

-- The last time is the seventh word.
pub timed_words : (m : Manager) (t : ℕ) → words_of (with_time m t) ≡ set (words_of m) 6 t
unfolding words_of
timed_words m t = refl

-- What stands from a place on, as a part that is lent has it.
pub from_here : (xs : List ℕ) (at : ℕ) → take (length xs - at) (drop at xs) ≡ drop at xs
from_here xs at = ap (λ (n : ℕ). take n (drop at xs)) (sym (length-drop at xs)) ∙ take-length (drop at xs)

module _ (xs : List ℕ) (i : ℕ) (h : i < 8) where
  pub part_route : route_in (take (length xs - (8 + 19 * i)) (drop (8 + 19 * i) xs)) ≡ route_at (manager_in xs) i
  part_route = ap route_in (from_here xs (8 + 19 * i)) ∙ sym (route_in_lem xs i h)

  pub part_settings : settings_in (take (length xs - (8 + 19 * i)) (drop (8 + 19 * i) xs)) ≡ settings_at (manager_in xs) i
  unfolding route_in
  part_settings = ap settings_in (from_here xs (8 + 19 * i)) ∙ sym (ap (λ (r : Route). r.settings) (route_in_lem xs i h))

-- What a route's nineteen words say is what all the words from there on say.
module _ (xs : List ℕ) where
  pub word_in : (k : ℕ) → k < 19 → get_or (take 19 xs) k 0 ≡ get_or xs k 0
  word_in k h = get_or-take 19 xs k 0 h

  pub settings_in_lem : settings_in (take 19 xs) ≡ settings_in xs
  settings_in_lem =
      λ i. record {
        filter = filter_in (word_in 0 (lit< tt) i) (word_in 1 (lit< tt) i) (word_in 2 (lit< tt) i) (word_in 3 (lit< tt) i) (word_in 4 (lit< tt) i);
        octets = octet1 (word_in 5 (lit< tt) i);
        limit = word_in 6 (lit< tt) i;
        age = word_in 7 (lit< tt) i;
        most = word_in 8 (lit< tt) i;
        flag = octet1 (word_in 16 (lit< tt) i);
        release = release_in (word_in 5 (lit< tt) i);
      }

  pub file_in_lem : file_in (take 19 xs) ≡ file_in xs
  file_in_lem =
      λ i. record {
        sequence = word_in 12 (lit< tt) i;
        opened = rest_of (word_in 13 (lit< tt) i);
        appended = word_in 14 (lit< tt) i;
        high = release_in (word_in 15 (lit< tt) i);
        low = release_in (word_in 16 (lit< tt) i);
        format = octet1 (word_in 15 (lit< tt) i);
        count = word_in 17 (lit< tt) i;
        octets = word_in 18 (lit< tt) i;
      }

  pub route_words_in : route_in (take 19 xs) ≡ route_in xs
  unfolding route_in
  route_words_in =
      λ i. record {
        settings = settings_in_lem i;
        next = word_in 9 (lit< tt) i;
        losses = word_in 10 (lit< tt) i;
        unrouted = word_in 11 (lit< tt) i;
        «open» = flag_of (word_in 13 (lit< tt) i);
        file = file_in_lem i;
      }

module _ (xs : List ℕ) (i : ℕ) (h : i < 8) where
  pub route_there : route_in (take 19 (drop (8 + 19 * i) xs)) ≡ route_at (manager_in xs) i
  route_there = route_words_in (drop (8 + 19 * i) xs) ∙ sym (route_in_lem xs i h)

  pub settings_there : settings_in (take 19 (drop (8 + 19 * i) xs)) ≡ settings_at (manager_in xs) i
  unfolding route_in
  settings_there = settings_in_lem (drop (8 + 19 * i) xs) ∙ sym (ap (λ (r : Route). r.settings) (route_in_lem xs i h))

-- Two filters are the same exactly where their lengths and their words are.
pub same_test : (a b : Bool) → (a ≡ true → b ≡ true) → (b ≡ true → a ≡ true) → a ≡ b
same_test true b f g = sym (f refl)
same_test false true f g = g refl
same_test false false f g = refl

same_four : (l₁ l₂ : List ℕ) (k a b : ℕ) → four_at l₁ k ≡ a → four_at l₂ k ≡ b → l₁ ≡ l₂ → a ≡ b
same_four l₁ l₂ k a b p q e = sym p ∙ ap (λ (l : List ℕ). four_at l k) e ∙ q

module _ (a b c d e a' b' c' d' e' : ℕ) where
  abbrev the_filter : List ℕ
  the_filter = filter_in a b c d e

  abbrev the_other : List ℕ
  the_other = filter_in a' b' c' d' e'

  same_fives : (eqb a a' && (eqb b b' && (eqb c c' && (eqb d d' && eqb e e')))) ≡ alike the_filter the_other 20
  same_fives = same_test (eqb a a' && (eqb b b' && (eqb c c' && (eqb d d' && eqb e e')))) (alike the_filter the_other 20) there back
    where
      there : (eqb a a' && (eqb b b' && (eqb c c' && (eqb d d' && eqb e e')))) ≡ true → alike the_filter the_other 20 ≡ true
      there t =
          let t1 = both (eqb a a') (eqb b b' && (eqb c c' && (eqb d d' && eqb e e'))) t in
          let t2 = both (eqb b b') (eqb c c' && (eqb d d' && eqb e e')) t1.1 in
          let t3 = both (eqb c c') (eqb d d' && eqb e e') t2.1 in
          let t4 = both (eqb d d') (eqb e e') t3.1 in
          let p : the_filter ≡ the_other = λ i. filter_in (eqb-true a a' t1.0 i) (eqb-true b b' t2.0 i) (eqb-true c c' t3.0 i) (eqb-true d d' t4.0 i) (eqb-true e e' t4.1 i) in
          ap (λ (l : List ℕ). alike the_filter l 20) (sym p) ∙ alike_self the_filter 20

      back : alike the_filter the_other 20 ≡ true → (eqb a a' && (eqb b b' && (eqb c c' && (eqb d d' && eqb e e')))) ≡ true
      back t =
          let p : the_filter ≡ the_other = alike_is the_filter the_other refl t in
          λ i.
          eq-eqb a a' (same_four the_filter the_other 0 a a' (packed_word a) (packed_word a') p) i
          && (eq-eqb b b' (same_four the_filter the_other 4 b b' (packed_word b) (packed_word b') p) i
          && (eq-eqb c c' (same_four the_filter the_other 8 c c' (packed_word c) (packed_word c') p) i
          && (eq-eqb d d' (same_four the_filter the_other 12 d d' (packed_word d) (packed_word d') p) i
          && eq-eqb e e' (same_four the_filter the_other 16 e e' (packed_word e) (packed_word e') p) i)))

pub same_words : (xs ys : List ℕ) {one other : ℕ} → one ≡ octet1 (get_or xs 5 0) → other ≡ octet1 (get_or ys 5 0)
    → (eqb one other && (eqb (get_or xs 0 0) (get_or ys 0 0) && (eqb (get_or xs 1 0) (get_or ys 1 0) && (eqb (get_or xs 2 0) (get_or ys 2 0) && (eqb (get_or xs 3 0) (get_or ys 3 0) && eqb (get_or xs 4 0) (get_or ys 4 0))))))
    ≡ same_filter (settings_in xs) (settings_in ys)
unfolding same_filter
same_words xs ys p q =
    λ i. eqb (p i) (q i) && same_fives (get_or xs 0 0) (get_or xs 1 0) (get_or xs 2 0) (get_or xs 3 0) (get_or xs 4 0) (get_or ys 0 0) (get_or ys 1 0) (get_or ys 2 0) (get_or ys 3 0) (get_or ys 4 0) i

-- All that an event leaves of one route and the time.
pub left_words : (xs : List ℕ) → length xs ≡ 360 → (i : ℕ) → i < 8 → (r : Route) → r.settings ≡ settings_at (manager_in xs) i → (t : ℕ)
    → set (splice xs (17 + 19 * i) (changing_words r [])) 6 t ≡ words_of (with_time (with_route (manager_in xs) i r) t)
left_words xs e i h r s t =
    let m = manager_in xs in
    ap (λ (l : List ℕ). set (splice l (17 + 19 * i) (changing_words r [])) 6 t) (sym (words_words xs e))
    ∙ ap (λ (l : List ℕ). set l 6 t) (sym (changed_words m i r (omega (arith, routes_eight xs)) s))
    ∙ sym (timed_words (with_route m i r) t)

-- A filter has twenty octets.
pub twenty : (xs : List ℕ) (i : ℕ) → i < 8 → length (settings_at (manager_in xs) i).filter ≡ 20
unfolding route_in
twenty xs i h = ap (λ (r : Route). length r.settings.filter) (route_in_lem xs i h)

-- One route after another is changed in the words xs, which began as zs: those from i on are as they were.
module _ (xs zs : List ℕ) (i : ℕ) (same : drop (8 + 19 * i) xs ≡ drop (8 + 19 * i) zs) where
  -- so the route that is read is the first state's
  pub route_still : i < 8 → route_at (manager_in xs) i ≡ route_at (manager_in zs) i
  route_still h = route_in_lem xs i h ∙ ap route_in same ∙ sym (route_in_lem zs i h)

  -- and with it all that stands behind the routes
  pub sets_still : i ≤ 8 → (manager_in xs).set_times ≡ (manager_in zs).set_times
  unfolding manager_in
  sets_still h =
      let e : 8 + 19 * i + (152 - 19 * i) ≡ 160 = omega arith in
      ap (λ (k : ℕ). drop k xs) (sym e)
      ∙ sym (drop-drop (152 - 19 * i) (8 + 19 * i) xs)
      ∙ ap (drop (152 - 19 * i)) same
      ∙ drop-drop (152 - 19 * i) (8 + 19 * i) zs
      ∙ ap (λ (k : ℕ). drop k zs) e

  pub next_still : drop (8 + 19 * (i + 1)) xs ≡ drop (8 + 19 * (i + 1)) zs
  next_still =
      let e : 8 + 19 * i + 19 ≡ 8 + 19 * (i + 1) = omega arith in
      ap (λ (k : ℕ). drop k xs) (sym e)
      ∙ sym (drop-drop 19 (8 + 19 * i) xs)
      ∙ ap (drop 19) same
      ∙ drop-drop 19 (8 + 19 * i) zs
      ∙ ap (λ (k : ℕ). drop k zs) e

  -- a change of the route i leaves the number of words, and those behind it
  module _ (number : length xs ≡ 360) (h : i < 8) (r : Route) where
    pub put_number : length (splice xs (17 + 19 * i) (changing_words r [])) ≡ 360
    put_number =
        let room : 17 + 19 * i + 10 ≤ length xs = omega arith in
        splice_length xs (17 + 19 * i) (changing_words r []) room ∙ number

    pub put_still : drop (8 + 19 * (i + 1)) (splice xs (17 + 19 * i) (changing_words r [])) ≡ drop (8 + 19 * (i + 1)) zs
    put_still =
        let starts : 17 + 19 * i ≤ length xs = omega arith in
        splice_drop xs (17 + 19 * i) (changing_words r []) starts (8 + 19 * (i + 1)) (omega arith) ∙ next_still

-- A whole route is a splice of its nineteen words, and the node with the number of routes one of six.
filled_routes : (rs : List Route) (rest : List ℕ) (i : ℕ) (r : Route) → i < length rs
    → routes_words (set rs i r) rest ≡ splice (routes_words rs rest) (19 * i) (route_words r [])
unfolding splice
filled_routes [] rest i r h = absurd (omega arith)
filled_routes (q ∷ qs) rest zero r h = refl
filled_routes (q ∷ qs) rest (suc i) r h =
    let k : 19 + 19 * i ≡ 19 * suc i = omega arith in
    ap (route_words q) (filled_routes qs rest i r (omega arith))
    ∙ sym (splice_past (route_words q []) (routes_words qs rest) (19 * i) (route_words r []))
    ∙ ap (λ (j : ℕ). splice (routes_words (q ∷ qs) rest) j (route_words r [])) k

pub filled_words : (m : Manager) (i : ℕ) (r : Route) → i < length m.routes → splice (words_of m) (8 + 19 * i) (route_words r []) ≡ words_of (with_route m i r)
unfolding words_of
filled_words m i r h =
    let head : List ℕ = node_words (node_of m) m.count (m.last ∷ m.unrouted ∷ []) in
    splice_past head (routes_words m.routes m.set_times) (19 * i) (route_words r [])
    ∙ sym (ap (λ (l : List ℕ). head ++ l) (filled_routes m.routes m.set_times i r h))

pub node_words_lem : (m : Manager) (n : Node) (count : ℕ)
    → splice (words_of m) 0 (node_words n count [])
    ≡ words_of (record { routes = m.routes; count = count; address = n.address; bias = n.bias; last = m.last; unrouted = m.unrouted; set_times = m.set_times })
unfolding splice words_of
node_words_lem m n count = refl
