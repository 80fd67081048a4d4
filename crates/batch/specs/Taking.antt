-- A packet's records taken one behind another (document 02, ask 8): what a record leaves is judged still, so that the next can be taken; and
-- what is known before each record of what is answered and left in all. Assumes nothing.
use Rattle.std.specs.Prelude.{◌≡◌, refl, Bool, true, false, not, ◌&&◌, ◌||◌, List, [], ◌∷◌, ◌++◌, ℕ, zero, suc, ◌+◌, ◌-◌, ◌≤◌, ◌<◌, ltb, leb, eqb, length, take, drop, set, replicate}
use Rattle.std.proofs.Common.{sym, ap, ◌∙◌, subst, append_assoc, append-nil, zero-le, arith, zero-add, length-append, length-drop, take-append-drop, drop-drop, get_or-drop, length-take-le, ltb-false, le-ltb, leb-true, eq-eqb}
use Rattle.std.proofs.Math.Bool.{cond}
use Rattle.std.proofs.lemmas.Bool.{not-false}
use Rattle.std.proofs.Math.Decide.{dec_lt}
use Rattle.std.proofs.Math.Seq.{set-append_seam, take-append-add, drop-append-add}
use Rattle.refusals.specs.Refusal.{◌when◌, first, passed}
use Rattle.refusals.specs.Tests.{both}
use Rattle.octets.specs.Number.{Octets}
use Rattle.state.specs.Manager.{Manager}
use Rattle.state.specs.Manager.{regions}
use Rattle.state.specs.Bounds.{state_right}
use Rattle.state.specs.Common.{judged}
use Rattle.words.specs.Words.{manager_in}
use Rattle.words.specs.Laws.{Held, routes_eight, words_length, manager_words}
use Rattle.words.specs.HeldIn.{Words32, held_in}
use Rattle.events.specs.declared.Answer.{Answer}
use Rattle.events.specs.Events.{After}
use Rattle.events.specs.Receive.{receive_of}
use Rattle.events.specs.Held.{receive_held}
use Rattle.events.specs.Stays.{Stays, receive_stays}
use Rattle.events.specs.Work.{receive_room}
use Rattle.events.specs.Lent.{Left, worded, unlike, receive_on}
use Rattle.packets.specs.Packet.{Delivered, size_of, first_of, whole, records_in, wrong_packet, delivered}
use Rattle.packets.proofs.Walk.{records_few}
use Rattle.packets.specs.Fold.{Taken, before, received, take_all}
use Rattle.batch.specs.declared.Answers.{Answers}
use Rattle.batch.specs.Told.{no_answer, padded, answers_of, told, told_of}

-- what it says that a state and a store were judged, both ways
judged_right : (m : Manager) (store : ℕ) → first (judged m store []) ≡ 0 → (state_right m ≡ true) × (regions m ≤ store)
judged_right m store e =
    let p = passed 17 (not (state_right m)) ((16 when ltb store (regions m)) ∷ []) e in
    let q = passed 15 (ltb store (regions m)) [] p.1 in
    (not-false (state_right m) p.0, ltb-false store (regions m) q.0)

right_judged : (m : Manager) (store : ℕ) → state_right m ≡ true → regions m ≤ store → first (judged m store []) ≡ 0
right_judged m store e h = λ i. cond {A = ℕ} (not (e i)) 18 (cond (le-ltb store (regions m) h i) 16 0)

-- One record.
module _ (words store output : List ℕ) (d : Delivered) (number : length words ≡ 360) (held : Held (manager_in words)) (low : d.arrival.extension < 256)
    (right : first (judged (manager_in words) (length store) []) ≡ 0) where
  abbrev m : Manager
  m = manager_in words

  abbrev done : After
  done = receive_of m store output d.time d.arrival d.key d.body

  on : received d words store output ≡ worded done
  unfolding receive_on
  on = λ i. cond (eq-eqb (length words) 360 number i) (worded done) (unlike words store output)

  stays : Stays m store done
  stays = receive_stays m store output d.time d.arrival d.key d.body (routes_eight words) (judged_right m (length store) right).0

  left_held : Held done.outcome.manager
  left_held = receive_held held store output d.time d.arrival d.key d.body low

  pub left_holds : Held (manager_in (received d words store output).words)
  left_holds = subst Held (sym (ap (λ (x : Left). manager_in x.words) on ∙ manager_words done.outcome.manager left_held)) left_held

  pub left_number : length (received d words store output).words ≡ 360
  left_number = ap (λ (x : Left). length x.words) on ∙ words_length done.outcome.manager left_held.eight left_held.sets

  pub left_judged : first (judged (manager_in (received d words store output).words) (length (received d words store output).store) []) ≡ 0
  left_judged =
      (λ i. first (judged (manager_in (on i).words) (length (on i).store) []))
      ∙ ap (λ (n : Manager). first (judged n (length done.store) [])) (manager_words done.outcome.manager left_held)
      ∙ right_judged done.outcome.manager (length done.store) stays.right (omega (arith, stays.same, stays.long, (judged_right m (length store) right).1))

  pub left_long : length (received d words store output).store ≡ length store
  left_long = ap (λ (x : Left). length x.store) on ∙ stays.long

  pub left_room : (received d words store output).answer.refusal ≡ 0 → (received d words store output).answer.octets ≤ length output
  left_room z =
      omega (arith, ap (λ (x : Left). x.answer.octets) on, receive_room m store output d.time d.arrival d.key d.body (sym (ap (λ (x : Left). x.answer.refusal) on) ∙ z))

-- What is answered and left in all, where so many were tried and accepted, and filled so much of the output.
abbrev pub glued : List Answer → ℕ → List ℕ → Taken → Taken
glued tried used output rest =
    record {
      refusal = rest.refusal;
      accepted = length tried + rest.accepted;
      answers = tried ++ rest.answers;
      words = rest.words;
      store = rest.store;
      output = take used output ++ rest.output;
    }

-- Before the i-th of n records of a packet, which starts at `at`: the state is held to its fields' bounds.
pub record Underway (xs : List ℕ) (n : ℕ) (words₀ store₀ output₀ words store output : List ℕ) (r : Answers) (at used i : ℕ) : Type 0 where
  pub tried : List Answer
  pub many : length tried ≡ i
  pub says : r ≡ answers_of 0 0 tried
  pub number : length words ≡ 360
  pub held : Held (manager_in words)
  pub right : first (judged (manager_in words) (length store) []) ≡ 0
  pub long : length store ≡ length store₀
  pub wide : length output ≡ length output₀
  pub few : i ≤ 64
  pub inside : at ≤ length xs
  pub wholly : whole (64 - i) (drop at xs) ≡ true
  pub ahead : n ≡ i + length (records_in (64 - i) (drop at xs))
  pub room : used ≤ length output
  pub total : take_all (delivered xs) words₀ store₀ output₀ ≡ glued tried used output (take_all (records_in (64 - i) (drop at xs)) words store (drop used output))

-- The same, and each word is of 32 bits, which holds the state to these bounds.
pub record Taking (xs : List ℕ) (n : ℕ) (words₀ store₀ output₀ words store output : List ℕ) (r : Answers) (at used i : ℕ) : Type 0 where
  pub tried : List Answer
  pub many : length tried ≡ i
  pub says : r ≡ answers_of 0 0 tried
  pub number : length words ≡ 360
  pub bits : Words32 words
  pub right : first (judged (manager_in words) (length store) []) ≡ 0
  pub long : length store ≡ length store₀
  pub wide : length output ≡ length output₀
  pub few : i ≤ 64
  pub inside : at ≤ length xs
  pub wholly : whole (64 - i) (drop at xs) ≡ true
  pub ahead : n ≡ i + length (records_in (64 - i) (drop at xs))
  pub room : used ≤ length output
  pub total : take_all (delivered xs) words₀ store₀ output₀ ≡ glued tried used output (take_all (records_in (64 - i) (drop at xs)) words store (drop used output))

pub taking_begins : (xs words store output : List ℕ) {n : ℕ} {r : Answers} → r ≡ answers_of 0 0 [] → length words ≡ 360 → Words32 words → first (judged (manager_in words) (length store) []) ≡ 0
    → wrong_packet xs ≡ false → n ≡ length (delivered xs) → Taking xs n words store output words store output r 0 0 0
unfolding wrong_packet delivered
taking_begins xs words store output e number bits right all many =
    record {
      tried = [];
      many = refl;
      says = e;
      number = number;
      bits = bits;
      right = right;
      long = refl;
      wide = refl;
      few = zero-le;
      inside = zero-le;
      wholly = not-false (whole 64 xs) all;
      ahead = many ∙ sym (zero-add (length (records_in 64 xs)));
      room = zero-le;
      total = taken_same (take_all (records_in 64 xs) words store output);
    }
  where
    taken_same : (t : Taken) → t ≡ glued [] 0 output t
    taken_same t = λ i. record { refusal = t.refusal; accepted = sym (zero-add t.accepted) i; answers = t.answers; words = t.words; store = t.store; output = t.output }

module _ {xs : List ℕ} {n : ℕ} {words₀ store₀ output₀ words store output : List ℕ} {r : Answers} {at used i : ℕ} where
  abbrev pub underway : Taking xs n words₀ store₀ output₀ words store output r at used i → Underway xs n words₀ store₀ output₀ words store output r at used i
  underway v =
      record {
        tried = v.tried;
        many = v.many;
        says = v.says;
        number = v.number;
        held = held_in words v.number v.bits;
        right = v.right;
        long = v.long;
        wide = v.wide;
        few = v.few;
        inside = v.inside;
        wholly = v.wholly;
        ahead = v.ahead;
        room = v.room;
        total = v.total;
      }

  abbrev pub taking : Underway xs n words₀ store₀ output₀ words store output r at used i → Words32 words → Taking xs n words₀ store₀ output₀ words store output r at used i
  taking u bits =
      record {
        tried = u.tried;
        many = u.many;
        says = u.says;
        number = u.number;
        bits = bits;
        right = u.right;
        long = u.long;
        wide = u.wide;
        few = u.few;
        inside = u.inside;
        wholly = u.wholly;
        ahead = u.ahead;
        room = u.room;
        total = u.total;
      }

-- a refused record is the last
stopped : (k : ℕ) (x : Left) (rest : Taken) → (k ≡ 0 → ⊥)
    → before k x rest ≡ record { refusal = k; accepted = 0; answers = x.answer ∷ []; words = x.words; store = x.store; output = x.output }
stopped zero x rest h = absurd (h refl)
stopped (suc k) x rest h = refl

-- an answer more
set_padded : (tried : List Answer) (i : ℕ) (a : Answer) → length tried ≡ i → i < 64 → set (padded tried) i a ≡ padded (tried ++ (a ∷ []))
set_padded tried i a e h =
    let k : 64 - length tried ≡ suc (63 - i) = omega arith in
    let l : 63 - i ≡ 64 - length (tried ++ (a ∷ [])) = omega (arith, length-append tried (a ∷ [])) in
    (λ j. set (tried ++ replicate (k j) no_answer) (sym e j) a)
    ∙ set-append_seam tried no_answer (replicate (63 - i) no_answer) a
    ∙ sym (append_assoc tried (a ∷ []) (replicate (63 - i) no_answer))
    ∙ ap (λ (q : ℕ). (tried ++ (a ∷ [])) ++ replicate q no_answer) l

module _ {xs : List ℕ} {n : ℕ} {words₀ store₀ output₀ words store output : List ℕ} {r : Answers} {at used i : ℕ} (v : Underway xs n words₀ store₀ output₀ words store output r at used i) where
  abbrev ys : List ℕ
  ys = drop at xs

  pub taking_few : n ≤ 64
  taking_few = omega (arith, v.ahead, v.few, records_few (64 - i) ys)

  -- no more
  pub taking_ends : n ≤ i → take_all (delivered xs) words₀ store₀ output₀ ≡ record { refusal = 0; accepted = n; answers = v.tried; words = words; store = store; output = output }
  taking_ends h =
      v.total
      ∙ ap (λ (l : List Delivered). glued v.tried used output (take_all l words store (drop used output))) (none (records_in (64 - i) ys) (omega (arith, v.ahead)))
      ∙ (λ j.
      record {
        refusal = 0;
        accepted = counted j;
        answers = append-nil v.tried j;
        words = words;
        store = store;
        output = take-append-drop used output j;
      })
    where
      counted : length v.tried + 0 ≡ n
      counted = omega (arith, v.many, v.ahead)

      none : (l : List Delivered) → length l ≡ 0 → l ≡ []
      none [] e = refl
      none (d ∷ l) e = absurd (omega arith)

  pub ends_told : n ≤ i → told (record { refusal = r.refusal; accepted = n; answers = r.answers }) words store output ≡ told_of (take_all (delivered xs) words₀ store₀ output₀)
  ends_told h =
      ap (λ (q : Answers). told (record { refusal = q.refusal; accepted = n; answers = q.answers }) words store output) v.says
      ∙ sym (ap told_of (taking_ends h))

  -- one more
  module _ (more : i < n) where
    ahead_some : (length (records_in (64 - i) ys) ≡ 0 → ⊥)
    ahead_some z = omega (arith, v.ahead)

    pub below : i < 64
    below = go (dec_lt i 64)
      where
        go : Dec (i < 64) → i < 64
        go (yes h) = h
        go (no h) =
            let z : 64 - i ≡ 0 = omega arith in
            absurd (ahead_some (ap (λ (k : ℕ). length (records_in k ys)) z))

    fuel : 64 - i ≡ suc (63 - i)
    fuel = omega (arith, below)

    abbrev next : List ℕ
    next = drop (size_of ys) ys

    some : eqb (length ys) 0 ≡ false
    some = go (eqb (length ys) 0) refl
      where
        go : (b : Bool) → eqb (length ys) 0 ≡ b → eqb (length ys) 0 ≡ false
        go true e = absurd (ahead_some (ap (λ (k : ℕ). length (records_in k ys)) fuel ∙ ap (λ (b : Bool). length (cond b [] (first_of ys ∷ records_in (63 - i) next))) e))
        go false e = e

    rest_whole : (leb (size_of ys) (length ys) ≡ true) × (whole (63 - i) next ≡ true)
    rest_whole =
        both (leb (size_of ys) (length ys)) (whole (63 - i) next)
        (sym (ap (λ (k : ℕ). whole k ys) fuel ∙ ap (λ (b : Bool). b || (leb (size_of ys) (length ys) && whole (63 - i) next)) some) ∙ v.wholly)

    pub taking_fits : at + size_of ys ≤ length xs
    taking_fits = omega (arith, leb-true (size_of ys) (length ys) rest_whole.0, length-drop at xs, v.inside)

    listed : records_in (64 - i) ys ≡ first_of ys ∷ records_in (63 - i) next
    listed = ap (λ (k : ℕ). records_in k ys) fuel ∙ ap (λ (b : Bool). cond b [] (first_of ys ∷ records_in (63 - i) next)) some

    abbrev x : Left
    x = received (first_of ys) words store (drop used output)

    abbrev rest : Taken
    rest = take_all (records_in (63 - i) next) x.words x.store (drop x.answer.octets x.output)

    now_total : take_all (delivered xs) words₀ store₀ output₀ ≡ glued v.tried used output (before x.answer.refusal x rest)
    now_total = v.total ∙ ap (λ (l : List Delivered). glued v.tried used output (take_all l words store (drop used output))) listed

    -- which is refused
    pub taking_stops : (x.answer.refusal ≡ 0 → ⊥)
        → take_all (delivered xs) words₀ store₀ output₀
        ≡ record { refusal = x.answer.refusal; accepted = i; answers = v.tried ++ (x.answer ∷ []); words = x.words; store = x.store; output = take used output ++ x.output }
    taking_stops h =
        now_total
        ∙ ap (glued v.tried used output) (stopped x.answer.refusal x rest h)
        ∙ (λ j. record { refusal = x.answer.refusal; accepted = counted j; answers = v.tried ++ (x.answer ∷ []); words = x.words; store = x.store; output = take used output ++ x.output })
      where
        counted : length v.tried + 0 ≡ i
        counted = omega (arith, v.many)

    pub stops_told : (x.answer.refusal ≡ 0 → ⊥)
        → told (record { refusal = x.answer.refusal; accepted = i; answers = set r.answers i x.answer }) x.words x.store (take used output ++ x.output)
        ≡ told_of (take_all (delivered xs) words₀ store₀ output₀)
    stops_told h =
        ap (λ (l : List Answer). told (record { refusal = x.answer.refusal; accepted = i; answers = l }) x.words x.store (take used output ++ x.output))
        (ap (λ (q : Answers). set q.answers i x.answer) v.says ∙ set_padded v.tried i x.answer v.many below)
        ∙ sym (ap told_of (taking_stops h))

    -- or not: then the next can be taken, of an output whose filled part has grown
    module _ (o : Octets xs) (z : x.answer.refusal ≡ 0) where
      low : (first_of ys).arrival.extension < 256
      low = omega (arith, get_or-drop at xs 8 0, o.at (at + 8))

      abbrev k : ℕ
      k = x.answer.octets

      pub fit : k ≤ length (drop used output)
      fit = left_room words store (drop used output) (first_of ys) v.number v.held low v.right z

      -- the output, with what the record filled
      module _ (same : length x.output ≡ length (drop used output)) where
        abbrev out : List ℕ
        out = take used output ++ x.output

        out_length : length out ≡ length output
        out_length = omega (arith, length-append (take used output) x.output, length-take-le used output v.room, same, length-drop used output, v.room)

        out_take : take (used + k) out ≡ take used output ++ take k x.output
        out_take =
            let e : used + k ≡ length (take used output) + k = ap (λ (q : ℕ). q + k) (sym (length-take-le used output v.room)) in
            ap (λ (q : ℕ). take q out) e ∙ take-append-add (take used output) x.output k

        out_drop : drop (used + k) out ≡ drop k x.output
        out_drop =
            let e : used + k ≡ length (take used output) + k = ap (λ (q : ℕ). q + k) (sym (length-take-le used output v.room)) in
            ap (λ (q : ℕ). drop q out) e ∙ drop-append-add (take used output) x.output k

        pub underway_next : {r' : Answers} → r' ≡ record { refusal = r.refusal; accepted = r.accepted; answers = set r.answers i x.answer }
            → Underway xs n words₀ store₀ output₀ x.words x.store out r' (at + size_of ys) (used + k) (i + 1)
        underway_next e =
            let steps : 63 - i ≡ 64 - (i + 1) = omega arith in
            let d = drop-drop (size_of ys) at xs in
            let tried = v.tried ++ (x.answer ∷ []) in
            record {
              tried = tried;
              many = omega (arith, length-append v.tried (x.answer ∷ []), v.many);
              says =
                  e
                  ∙ ap (λ (q : Answers). record { refusal = q.refusal; accepted = q.accepted; answers = set q.answers i x.answer }) v.says
                  ∙ ap (λ (l : List Answer). record { refusal = 0; accepted = 0; answers = l }) (set_padded v.tried i x.answer v.many below);
              held = left_holds words store (drop used output) (first_of ys) v.number v.held low v.right;
              number = left_number words store (drop used output) (first_of ys) v.number v.held low v.right;
              right = left_judged words store (drop used output) (first_of ys) v.number v.held low v.right;
              long = left_long words store (drop used output) (first_of ys) v.number v.held low v.right ∙ v.long;
              wide = out_length ∙ v.wide;
              few = omega (arith, below);
              inside = taking_fits;
              wholly = (λ j. whole (sym steps j) (sym d j)) ∙ rest_whole.1;
              ahead = v.ahead ∙ ap (λ (l : List Delivered). i + length l) listed ∙ more_length (λ j. records_in (steps j) (d j));
              room = omega (arith, fit, out_length, length-drop used output, v.room);
              total =
                  now_total
                  ∙ ap (λ (q : ℕ). glued v.tried used output (before q x rest)) z
                  ∙ (λ j.
                  record {
                    refusal = rest.refusal;
                    accepted = counted rest.accepted j;
                    answers = sym (append_assoc v.tried (x.answer ∷ []) rest.answers) j;
                    words = rest.words;
                    store = rest.store;
                    output = (sym (append_assoc (take used output) (take k x.output) rest.output) ∙ ap (λ (l : List ℕ). l ++ rest.output) (sym out_take)) j;
                  })
                  ∙ (λ j. glued tried (used + k) out (take_all (records_in (steps j) (d j)) x.words x.store (sym out_drop j)));
            }
          where
            counted : (q : ℕ) → length v.tried + suc q ≡ length (v.tried ++ (x.answer ∷ [])) + q
            counted q = omega (arith, length-append v.tried (x.answer ∷ []))

            more_length : {l l' : List Delivered} → l ≡ l' → i + length (first_of ys ∷ l) ≡ i + 1 + length l'
            more_length p = omega (arith, ap length p)

        -- where the words that are left are of 32 bits
        pub taking_next : {r' : Answers} → Words32 x.words → r' ≡ record { refusal = r.refusal; accepted = r.accepted; answers = set r.answers i x.answer }
            → Taking xs n words₀ store₀ output₀ x.words x.store out r' (at + size_of ys) (used + k) (i + 1)
        taking_next bits e = taking (underway_next e) bits
