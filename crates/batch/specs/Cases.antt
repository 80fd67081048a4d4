-- The cases of a packet that the call meets (document 02, ask 8): 11; 18 or 16, which its first record gets too, if it has one; or its records
-- are taken. Assumes nothing.
use Rattle.std.specs.Prelude.{◌≡◌, refl, Bool, true, false, ◌||◌, ℕ, zero, suc, length, drop}
use Rattle.std.proofs.Math.Path.{sym, ap}
use Rattle.std.proofs.Common.{◌∙◌, arith}
use Rattle.std.proofs.Math.Bool.{cond, not}
use mathlib.Core.List.{List, [], ◌∷◌}
use Rattle.std.proofs.Math.Dec.{ltb}
use borrow.Author.Tests.{eq-eqb, ne_eqb, lt-ltb}
use Rattle.refusals.specs.Refusal.{◌when◌, first}
use Rattle.state.specs.Manager.{regions}
use Rattle.state.specs.Bounds.{state_right}
use Rattle.state.specs.Common.{judged, judged_common}
use Rattle.words.specs.Words.{manager_in}
use Rattle.words.specs.Laws.{words_words}
use Rattle.events.specs.Events.{refusal_of}
use Rattle.events.specs.Receive.{receive_of}
use Rattle.events.specs.Lent.{Left, left, worded, unlike, receive_on}
use Rattle.receiving.specs.Cases.{receive_common}
use Rattle.packets.specs.Packet.{Delivered, wrong_packet, delivered, count_of}
use Rattle.packets.proofs.Walk.{count_few}
use Rattle.packets.specs.Fold.{Taken, untried, before, received, take_all, empty_refusal, listed_on, packet_on}
use Rattle.batch.specs.declared.Answers.{Answers}
use Rattle.batch.specs.Told.{answers_of, told, told_of}

-- what is answered where the state or the store is refused
abbrev pub refused_of : ℕ → ℕ → Answers
refused_of number n = answers_of number 0 (cond (ltb 0 n) (refusal_of number 0 ∷ []) [])

-- how many there are, by what the code counts
module _ (xs : List ℕ) {n : ℕ} (e : n ≡ count_of xs) where
  pub count_wrong : n ≡ 65 → wrong_packet xs ≡ true
  count_wrong h = go (wrong_packet xs) refl
    where
      go : (b : Bool) → wrong_packet xs ≡ b → wrong_packet xs ≡ true
      go true p = p
      go false p = absurd (omega (arith, h, e ∙ ap (λ (b : Bool). cond b 65 (length (delivered xs))) p, count_few xs))

  pub count_right : (n ≡ 65 → ⊥) → (wrong_packet xs ≡ false) × (n ≡ length (delivered xs))
  count_right h = go (wrong_packet xs) refl
    where
      go : (b : Bool) → wrong_packet xs ≡ b → (wrong_packet xs ≡ false) × (n ≡ length (delivered xs))
      go true p = absurd (h (e ∙ ap (λ (b : Bool). cond b 65 (length (delivered xs))) p))
      go false p = (p, e ∙ ap (λ (b : Bool). cond b 65 (length (delivered xs))) p)

module _ (words store output packet : List ℕ) where
  -- 11
  pub packet_wrong : wrong_packet packet ≡ true → {r : Answers} → r ≡ answers_of 11 0 [] → told r words store output ≡ told_of (packet_on words store output packet)
  unfolding packet_on
  packet_wrong p e =
      ap (λ (r : Answers). told r words store output) e
      ∙ sym (ap (λ (b : Bool). told_of (cond b (untried 11 words store output) (listed_on (delivered packet) words store output))) p)

  module _ (p : wrong_packet packet ≡ false) where
    listed : told_of (listed_on (delivered packet) words store output) ≡ told_of (packet_on words store output packet)
    unfolding packet_on
    listed = sym (ap (λ (b : Bool). told_of (cond b (untried 11 words store output) (listed_on (delivered packet) words store output))) p)

    -- 18 or 16
    pub packet_refused : (number : ℕ) → (number ≡ 0 → ⊥) → ((d : Delivered) → received d words store output ≡ left (refusal_of number 0) words store output)
        → empty_refusal words (length store) ≡ number → {n : ℕ} → n ≡ length (delivered packet) → {r : Answers} → r ≡ refused_of number n
        → told r words store output ≡ told_of (packet_on words store output packet)
    packet_refused number some each empty {n} en er =
        ap (λ (q : Answers). told q words store output) (er ∙ ap (refused_of number) en) ∙ go (delivered packet) ∙ listed
      where
        first_one : (k : ℕ) (x : Left) (rest : Taken) → (k ≡ 0 → ⊥) → x ≡ left (refusal_of k 0) words store output
            → told (refused_of k 1) words store output ≡ told_of (before k x rest)
        first_one zero x rest h q = absurd (h refl)
        first_one (suc k) x rest h q = λ i. told (answers_of (suc k) 0 ((sym q i).answer ∷ [])) (sym q i).words (sym q i).store (sym q i).output

        go : (ds : List Delivered) → told (refused_of number (length ds)) words store output ≡ told_of (listed_on ds words store output)
        go [] = ap (λ (k : ℕ). told_of (untried k words store output)) (sym empty)
        go (d ∷ ds) =
            let x = received d words store output in
            let rest = take_all ds x.words x.store (drop x.answer.octets x.output) in
            one_more (length ds)
            ∙ first_one number x rest some (each d)
            ∙ ap (λ (k : ℕ). told_of (before k x rest)) (sym (ap (λ (q : Left). q.answer.refusal) (each d)))
          where
            one_more : (k : ℕ) → told (refused_of number (suc k)) words store output ≡ told (refused_of number 1) words store output
            one_more k = ap (λ (b : Bool). told (answers_of number 0 (cond b (refusal_of number 0 ∷ []) [])) words store output) (lt-ltb 0 (suc k) (omega arith))

    -- judged
    pub packet_taken : empty_refusal words (length store) ≡ 0 → told_of (take_all (delivered packet) words store output) ≡ told_of (packet_on words store output packet)
    packet_taken e = go (delivered packet) ∙ listed
      where
        go : (ds : List Delivered) → told_of (take_all ds words store output) ≡ told_of (listed_on ds words store output)
        go [] = ap (λ (k : ℕ). told_of (untried k words store output)) (sym e)
        go (d ∷ ds) = refl

-- Which of 18 and 16 it is: words of another number, or what is judged.
module _ (words store output : List ℕ) where
  pub other_words : (length words ≡ 360 → ⊥) → ((d : Delivered) → received d words store output ≡ left (refusal_of 18 0) words store output) × (empty_refusal words (length store) ≡ 18)
  unfolding receive_on
  other_words h =
      let e = ne_eqb (length words) 360 h in (
        λ d. λ i. cond (e i) (worded (receive_of (manager_in words) store output d.time d.arrival d.key d.body)) (unlike words store output),
        λ i. first ((18 when (not (e i) || not (state_right (manager_in words)))) ∷ (16 when ltb (length store) (regions (manager_in words))) ∷ []),
      )

  module _ (number : length words ≡ 360) where
    empty_is : empty_refusal words (length store) ≡ first (judged (manager_in words) (length store) [])
    empty_is = λ i. first ((18 when (not (eq-eqb (length words) 360 number i) || not (state_right (manager_in words)))) ∷ (16 when ltb (length store) (regions (manager_in words))) ∷ [])

    pub judged_words : {k : ℕ} → k ≡ first (judged (manager_in words) (length store) []) → (k ≡ 0 → ⊥)
        → ((d : Delivered) → received d words store output ≡ left (refusal_of k 0) words store output) × (empty_refusal words (length store) ≡ k)
    unfolding receive_on
    judged_words {k} e some = (each, empty_is ∙ sym e)
      where
        each : (d : Delivered) → received d words store output ≡ left (refusal_of k 0) words store output
        each d =
            let m = manager_in words in
            let made = receive_common m store output d.time d.arrival d.key d.body (judged_common m (length store) d.time e some) some in
            (λ i. cond (eq-eqb (length words) 360 number i) (worded (receive_of m store output d.time d.arrival d.key d.body)) (unlike words store output))
            ∙ ap worded (sym made)
            ∙ ap (λ (l : List ℕ). left (refusal_of k 0) l store output) (words_words words number)

    pub judged_passed : {k : ℕ} → k ≡ first (judged (manager_in words) (length store) []) → k ≡ 0 → empty_refusal words (length store) ≡ 0
    judged_passed e z = empty_is ∙ sym e ∙ z
