-- Words that refused settings give (settings, Settings.antt: no route is configured) are answered with 18 by every event, whatever else it is
-- lent and told (document 01, Refusals), and by every packet that is not refused with 11 before. Assumes nothing.
use Rattle.std.specs.Prelude.{◌≡◌, refl, Bool, true, false, cond, List, [], ◌∷◌, ℕ, zero, suc, drop}
use Rattle.std.proofs.Common.{ap}
use Rattle.state.specs.Bounds.{state_right}
use Rattle.words.specs.Words.{route_in, manager_in, words_of}
use Rattle.settings.specs.Settings.{no_manager, settled, verdict, fresh_of, loaded_of}
use Rattle.events.specs.Events.{open_of, close_of, tick_of}
use Rattle.events.specs.Receive.{receive_of}
use Rattle.events.specs.Lent.{open_on, close_on, tick_on, receive_on}
use Rattle.packets.specs.Packet.{Delivered, wrong_packet, delivered}
use Rattle.packets.specs.Fold.{untried, before, received, take_all, listed_on, packet_on}
use Rattle.ledger.specs.Event.{Event, open_event, close_event, tick_event, receive_event, as_receive}
use Rattle.ledger.specs.Run.{leaves}

no_route_lem : (store output : List ℕ) (e : Event) → (leaves (words_of no_manager) store output e).answer.refusal ≡ 18
unfolding open_on close_on tick_on receive_on open_of close_of tick_of receive_of words_of manager_in route_in state_right
no_route_lem store output (open_event time i) = refl
no_route_lem store output (close_event time i reason) = refl
no_route_lem store output (tick_event time) = refl
no_route_lem store output (receive_event time a key body) = refl

pub refused_settings : (xs : List ℕ) → ((loaded_of xs).refusal ≡ 0 → ⊥) → (store output : List ℕ) (e : Event) → (leaves (loaded_of xs).words store output e).answer.refusal ≡ 18
unfolding fresh_of
refused_settings xs h store output e = go (verdict xs) h
  where
    go : (n : ℕ) → ((settled n xs).refusal ≡ 0 → ⊥) → (leaves (words_of (settled n xs).manager) store output e).answer.refusal ≡ 18
    go zero h = absurd (h refl)
    go (suc n) h = no_route_lem store output e

no_packet : (store output packet : List ℕ) → (packet_on (words_of no_manager) store output packet).refusal ≡ cond (wrong_packet packet) 11 18
unfolding packet_on words_of manager_in route_in state_right
no_packet store output packet = go (wrong_packet packet) (delivered packet)
  where
    go : (b : Bool) (ds : List Delivered)
        → (cond b (untried 11 (words_of no_manager) store output) (listed_on ds (words_of no_manager) store output)).refusal ≡ cond b 11 18
    go true ds = refl
    go false [] = refl
    go false (d ∷ ds) =
        let x = received d (words_of no_manager) store output in
        ap (λ (r : ℕ). (before r x (take_all ds x.words x.store (drop x.answer.octets x.output))).refusal) (no_route_lem store output (as_receive d))

pub refused_packet : (xs : List ℕ) → ((loaded_of xs).refusal ≡ 0 → ⊥) → (store output packet : List ℕ)
    → (packet_on (loaded_of xs).words store output packet).refusal ≡ cond (wrong_packet packet) 11 18
unfolding fresh_of
refused_packet xs h store output packet = go (verdict xs) h
  where
    go : (n : ℕ) → ((settled n xs).refusal ≡ 0 → ⊥) → (packet_on (words_of (settled n xs).manager) store output packet).refusal ≡ cond (wrong_packet packet) 11 18
    go zero h = absurd (h refl)
    go (suc n) h = no_packet store output packet
