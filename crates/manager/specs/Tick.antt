-- TICK's loops (document 01, The events): a turn of `up_to` and `due_size`, what the closings need and leave, and the invariant of
-- the loop that closes the files one behind another. Assumes nothing.
use Rattle.std.specs.Prelude.{◌≡◌, refl, Bool, true, false, cond, ◌&&◌, ◌||◌, List, [], ℕ, zero, suc, ◌+◌, ◌-◌, ◌*◌, ◌≤◌, ◌<◌, ltb, leb, length, set, drop}
use Rattle.std.proofs.Common.{sym, ap, ◌∙◌, subst, arith, add-zero, add-suc, add-one, length-set, length-append, get_or-set_other}
use Rattle.std.proofs.lemmas.Bool.{false≢true}
use Rattle.octets.specs.Splice.{splice, splice_then, splice_nil}
use Rattle.state.specs.declared.Route.{Route}
use Rattle.state.specs.Manager.{Manager}
use Rattle.state.specs.Manager.{no_route, route_at, node_of, base, effective, with_time}
use Rattle.state.specs.SetTimes.{SetWithin, set_within}
use Rattle.state.specs.Within.{Within}
use Rattle.words.specs.Words.{manager_in, words_of, changing_words}
use Rattle.words.specs.Laws.{words_words, routes_eight, changed_words, timed_words, route_still, sets_still, next_still, put_number, put_still}
use Rattle.filing.specs.Closing.{lost_octet, closed_file, closed_size}
use Rattle.filing.specs.Needs.{Closable}
use Rattle.events.specs.declared.Answer.{Answer}
use Rattle.events.specs.Met.{Meetable}
use Rattle.events.specs.Rules.{closed_route, ending}
use Rattle.events.specs.Events.{answered, Run, met_at, ends, end_reason, closing, up_to, due_size, ticked}
use Rattle.events.specs.Lent.{left, worded}
use Rattle.events.specs.Cases.{closes}

-- a file that ends is open
ends_live : (t : ℕ) (r : Route) (met : Bool) → ending t r met ≡ true → r.«open» ≡ true
ends_live t r met e = go r.«open» refl e
  where
    go : (b : Bool) → r.«open» ≡ b → (b && ltb 0 r.settings.age && leb (r.file.opened + r.settings.age) t || (b && met)) ≡ true → r.«open» ≡ true
    go true p q = p
    go false p q = absurd (false≢true q)

module _ (m : Manager) (t : ℕ) where
  -- one route more
  pub size_one : (i : ℕ) → due_size m t (i + 1) ≡ due_size m t i + cond (ends m t i) (closed_size (route_at m i)) 0
  size_one i = rw add-one

  pub size_due : (i : ℕ) → ends m t i ≡ true → due_size m t (i + 1) ≡ due_size m t i + closed_size (route_at m i)
  size_due i e = rw (add-one, e)

  pub size_not : (i : ℕ) → ends m t i ≡ false → due_size m t (i + 1) ≡ due_size m t i
  size_not i e = rw (add-one, e) (omega arith)

  -- the octets only grow
  size_on : (i d : ℕ) → due_size m t i ≤ due_size m t (i + d)
  size_on i zero = rw add-zero (omega arith)
  size_on i (suc d) = rw add-suc (omega (arith, size_on i d))

  pub size_grows : (i n : ℕ) → i ≤ n → due_size m t i ≤ due_size m t n
  size_grows i n h =
      let e : i + (n - i) ≡ n = omega arith in
      rw e at (size_on i (n - i))

  module _ (store : List ℕ) (i : ℕ) where
    pub up_to_due : ends m t i ≡ true → up_to m store t (i + 1) ≡ closing m store t i (up_to m store t i)
    up_to_due e = rw (add-one, e)

    pub up_to_not : ends m t i ≡ false → up_to m store t (i + 1) ≡ up_to m store t i
    up_to_not e = rw (add-one, e)

-- The closings before it leave a route as it was.
module _ (m : Manager) (t : ℕ) (store : List ℕ) where
  pub up_to_eight : (n : ℕ) → length (up_to m store t n).manager.routes ≡ length m.routes
  up_to_eight zero = refl
  up_to_eight (suc n) = go (ends m t n) (up_to_eight n)
    where
      go : (b : Bool) → length (up_to m store t n).manager.routes ≡ length m.routes
          → length (cond b (closing m store t n (up_to m store t n)) (up_to m store t n)).manager.routes ≡ length m.routes
      go true e = length-set (up_to m store t n).manager.routes n (closed_route (route_at m n)) ∙ e
      go false e = e

  pub up_to_route : (n j : ℕ) → n ≤ j → route_at (up_to m store t n).manager j ≡ route_at m j
  up_to_route zero j h = refl
  up_to_route (suc n) j h = go (ends m t n) (up_to_route n j (omega arith))
    where
      go : (b : Bool) → route_at (up_to m store t n).manager j ≡ route_at m j
          → route_at (cond b (closing m store t n (up_to m store t n)) (up_to m store t n)).manager j ≡ route_at m j
      go true e = get_or-set_other (up_to m store t n).manager.routes n j (closed_route (route_at m n)) no_route (λ p. omega arith) ∙ e
      go false e = e

-- what the sizes need
pub record Endable (m : Manager) (t n : ℕ) : Type 0 where
  pub state : Within m
  pub few : n ≤ m.count
  pub time : t ≤ 52595999

-- what `Meetable` says, but for how many words the state has
pub record Askable (words : List ℕ) (i bias opened time : ℕ) : Type 0 where
  pub route : i < 8
  pub offset : bias ≤ 2878
  pub sets : SetWithin (manager_in words).set_times i
  pub before : opened < 2147483648
  pub now : time < 2147483648

-- it holds of a state within its bounds, however many words that has
pub askable : (words : List ℕ) {t n : ℕ} → Endable (manager_in words) t n → (i : ℕ) → i < n → {opened bias : ℕ} → opened < 2147483648 → bias ≡ (manager_in words).bias
    → Askable words i bias opened t
askable words k i h low e =
    record {
      route = omega (arith, k.state.few, k.few);
      offset = omega (arith, k.state.bias);
      sets = set_within (manager_in words).set_times (manager_in words).count k.state.sets i (omega (arith, k.few));
      before = low;
      now = omega (arith, k.time);
    }

module _ (words : List ℕ) (number : length words ≡ 360) {t n : ℕ} (k : Endable (manager_in words) t n) where
  -- a route's set minutes can be looked at
  pub meetable : (i : ℕ) → i < n → {opened bias : ℕ} → opened < 2147483648 → bias ≡ (manager_in words).bias → Meetable words i bias opened t
  meetable i h low e =
      let a = askable words k i h low e in
      record { number = number; route = a.route; offset = a.offset; sets = a.sets; before = a.before; now = a.now }

-- what the closings need: a state within its bounds, its regions in the store, and room for all files
pub record Ticks (m : Manager) (t n : ℕ) (store output : List ℕ) : Type 0 where
  pub state : Within m
  pub few : n ≤ m.count
  pub regions : base m m.count ≤ length store
  pub room : due_size m t n ≤ length output
  pub time : t ≤ 52595999

-- and what they leave
pub record Ticked (m : Manager) (t n : ℕ) (store output out xs : List ℕ) (files : ℕ) : Type 0 where
  pub words : xs ≡ words_of (up_to m store t n).manager
  pub count : files ≡ (up_to m store t n).files
  pub written : out ≡ splice output 0 (up_to m store t n).octets

-- A file that ends has octets: where there are none, nothing ends.
module _ (m : Manager) (t : ℕ) (store : List ℕ) where
  none_by : (b : Bool) (r : Route) → cond b (closed_size r) 0 ≡ 0 → b ≡ false
  none_by true r e = absurd (omega arith)
  none_by false r e = refl

  up_to_none : (n : ℕ) → due_size m t n ≡ 0 → up_to m store t n ≡ record { manager = m; octets = []; files = 0 }
  up_to_none zero e = refl
  up_to_none (suc n) e =
      let quiet = none_by (ends m t n) (route_at m n) (omega arith) in
      ap (λ (b : Bool). cond b (closing m store t n (up_to m store t n)) (up_to m store t n)) quiet ∙ up_to_none n (omega arith)

pub ticked_none : (words store output : List ℕ) (t n : ℕ) → length words ≡ 360 → due_size (manager_in words) t n ≡ 0 → Ticked (manager_in words) t n store output output words 0
ticked_none words store output t n number e =
    let u = up_to_none (manager_in words) t store n e in
    record {
      words = sym (ap (λ (x : Run). words_of x.manager) u ∙ words_words words number);
      count = sym (ap (λ (x : Run). x.files) u);
      written = sym (ap (λ (x : Run). splice output 0 x.octets) u ∙ splice_nil output 0);
    }

-- The loop's invariant: out, xs, start, at, files and i are the loop's own, output and words₀, the state's, are what it began
-- with. The words of the routes from i on are as they were.
pub record Inv (words₀ : List ℕ) (t n : ℕ) (store output out xs : List ℕ) (start at files i : ℕ) : Type 0 where
  pub below : i ≤ n
  pub few : files ≤ i
  pub words : xs ≡ words_of (up_to (manager_in words₀) store t i).manager
  pub number : length xs ≡ 360
  pub rest : drop (8 + 19 * i) xs ≡ drop (8 + 19 * i) words₀
  pub from : start ≡ base (manager_in words₀) i
  pub size : at ≡ due_size (manager_in words₀) t i
  pub octets : at ≡ length (up_to (manager_in words₀) store t i).octets
  pub count : files ≡ (up_to (manager_in words₀) store t i).files
  pub written : out ≡ splice output 0 (up_to (manager_in words₀) store t i).octets
  pub long : length out ≡ length output

module _ (words₀ : List ℕ) (t n : ℕ) (store output : List ℕ) where
  abbrev m : Manager
  m = manager_in words₀

  pub begins : length words₀ ≡ 360 → Inv words₀ t n store output output words₀ 0 0 0 0
  begins e =
      record {
        below = omega arith;
        few = omega arith;
        words = sym (words_words words₀ e);
        number = e;
        rest = refl;
        from = refl;
        size = refl;
        octets = refl;
        count = refl;
        written = sym (splice_nil output 0);
        long = refl;
      }

  module _ {out words : List ℕ} {from at files i : ℕ} (v : Inv words₀ t n store output out words from at files i) (more : i < n) where
    -- the route that is read is the state's
    pub same_route : n ≤ 8 → route_at (manager_in words) i ≡ route_at m i
    same_route few = route_still words words₀ i v.rest (omega arith)

    -- and so are its set minutes, which can be looked at
    pub same_sets : n ≤ 8 → (manager_in words).set_times ≡ m.set_times
    same_sets few = sets_still words words₀ i v.rest (omega arith)

    pub meets : Ticks m t n store output → {opened : ℕ} → opened < 2147483648 → {bias : ℕ} → bias ≡ m.bias → Meetable words i bias opened t
    meets k low e =
        record {
          number = v.number;
          route = omega (arith, k.state.few, k.few);
          offset = omega (arith, k.state.bias);
          sets =
              subst (λ (s : List ℕ). SetWithin s i) (sym (same_sets (omega (arith, k.state.few, k.few))))
              (set_within m.set_times m.count k.state.sets i (omega (arith, k.few)));
          before = low;
          now = omega (arith, k.time);
        }

    -- where its region ends
    next_base : {limit : ℕ} → limit ≡ (route_at m i).settings.limit → from + limit ≡ base m (i + 1)
    next_base e = rw add-one ((λ j. v.from j + e j))

    -- a route whose file does not end
    pub turn_not : {limit : ℕ} → limit ≡ (route_at m i).settings.limit → ends m t i ≡ false → Inv words₀ t n store output out words (from + limit) at files (i + 1)
    turn_not l e =
        let u = up_to_not m t store i e in
        record {
          below = omega arith;
          few = omega (arith, v.few);
          words = v.words ∙ sym (ap (λ (x : Run). words_of x.manager) u);
          number = v.number;
          rest = next_still words words₀ i v.rest;
          from = next_base l;
          size = v.size ∙ sym (size_not m t i e);
          octets = v.octets ∙ sym (ap (λ (x : Run). length x.octets) u);
          count = v.count ∙ sym (ap (λ (x : Run). x.files) u);
          written = v.written ∙ sym (ap (λ (x : Run). splice output 0 x.octets) u);
          long = v.long;
        }

    module _ (e : ends m t i ≡ true) where
      -- its file can be closed
      pub ready : Ticks m t n store output → Closable (node_of m) (route_at m i) (lost_octet (route_at m i)) store (base m i) out at
      ready k =
          closes k.state store k.regions i (omega (arith, k.few)) (ends_live t (route_at m i) (met_at m t i) e) out at
          (omega (arith, size_due m t i e, size_grows m t (i + 1) n (omega arith), k.room, v.size, v.long))

      -- its words are those of the state without it
      closed_words : n ≤ 8 → {r : Route} → r ≡ closed_route (route_at m i) → splice words (17 + 19 * i) (changing_words r []) ≡ words_of (up_to m store t (i + 1)).manager
      closed_words few {r} er =
          let q = (up_to m store t i).manager in
          let there : i < length q.routes = omega (arith, up_to_eight m t store i, routes_eight words₀) in
          (λ j. splice (v.words j) (17 + 19 * i) (changing_words (er j) []))
          ∙ sym (changed_words q i (closed_route (route_at m i)) there (sym (ap (λ (x : Route). x.settings) (up_to_route m t store i i (omega arith)))))
          ∙ sym (ap (λ (x : Run). words_of x.manager) (up_to_due m t store i e))

      -- and it is written behind those before it
      pub turn_due : n ≤ 8 → {out' words' : List ℕ} {at' limit : ℕ} {r : Route} → limit ≡ (route_at m i).settings.limit → at' ≡ at + closed_size (route_at m i)
          → out' ≡ splice out at (closed_file m store i (end_reason m t i))
          → length (closed_file m store i (end_reason m t i)) ≡ closed_size (route_at m i) → length out' ≡ length out
          → r ≡ closed_route (route_at m i) → words' ≡ splice words (17 + 19 * i) (changing_words r [])
          → Inv words₀ t n store output out' words' (from + limit) at' (files + 1) (i + 1)
      turn_due few {words' = words'} {r = r} l ea eo ef el er ew =
          let u = up_to_due m t store i e in
          let f : List ℕ = closed_file m store i (end_reason m t i) in
          let o : List ℕ = (up_to m store t i).octets in
          record {
            below = omega arith;
            few = omega (arith, v.few);
            words = ew ∙ closed_words few er;
            number = ap length ew ∙ put_number words words₀ i v.rest v.number (omega arith) r;
            rest = ap (drop (8 + 19 * (i + 1))) ew ∙ put_still words words₀ i v.rest v.number (omega arith) r;
            from = next_base l;
            size = omega (arith, ea, v.size, size_due m t i e);
            octets = omega (arith, ea, v.octets, ef, length-append o f, ap (λ (x : Run). length x.octets) u);
            count = omega (arith, v.count, ap (λ (x : Run). x.files) u);
            written =
                eo
                ∙ ap (λ (x : List ℕ). splice x at f) v.written
                ∙ splice_then output 0 o (omega arith) f at (omega (arith, v.octets))
                ∙ sym (ap (λ (x : Run). splice output 0 x.octets) u);
            long = el ∙ v.long;
          }

-- what the code puts together at the end is what is to be
pub ticked_made : (m : Manager) (store output : List ℕ) (time : ℕ) {t n size files : ℕ} {words out : List ℕ} {answer : Answer}
    → t ≡ effective m time → n ≡ m.count → size ≡ due_size m t n → Ticked m t n store output out words files → answer ≡ answered 6 255 files size 0
    → left answer (set words 6 t) store out ≡ worded (ticked m store output time)
ticked_made m store output time {t} {n} {size} {files} {words} {out} et en es d ea =
    (λ i. left (ea i) (set words 6 t) store out)
    ∙ (λ i. left (answered 6 255 (d.count i) (es i) 0) (set (d.words i) 6 t) store (d.written i))
    ∙ (λ i. left (answered 6 255 (up_to m store t n).files (due_size m t n) 0) (sym (timed_words (up_to m store t n).manager t) i) store (splice output 0 (up_to m store t n).octets))
    ∙ (λ i. left
    (answered 6 255 (up_to m store (et i) (en i)).files (due_size m (et i) (en i)) 0)
    (words_of (with_time (up_to m store (et i) (en i)).manager (et i)))
    store
    (splice output 0 (up_to m store (et i) (en i)).octets))
