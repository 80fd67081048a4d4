-- A packet of records (document 02, ask 8): up to 64 of them, one behind another. Each has time 4 octets; mark, key length, release,
-- version, extension, format and TS number 1 each; body length 4; then the key, then the body. The lengths frame it, whatever else it
-- says. A cut record, or a 65th, is 11 for the whole packet. Octets that are not there count as 0. Assumes nothing.
use Rattle.std.specs.Prelude.{Bool, cond, not, ◌&&◌, ◌||◌, List, [], ◌∷◌, ◌++◌, ℕ, zero, suc, ◌+◌, leb, eqb, length, get_or, take, drop, Result, Ok, Err}
use Rattle.octets.specs.Number.{be, num}
use Rattle.refusals.specs.declared.Refusal.{Refusal}
use Rattle.events.specs.declared.Arrival.{Arrival}

-- what a record of a packet says: the arguments of a RECEIVE
pub record Delivered : Type 0 where
  pub time : ℕ
  pub arrival : Arrival
  pub key : List ℕ
  pub body : List ℕ

-- of octets that begin with a record: its lengths, and itself
abbrev pub key_length : List ℕ → ℕ
key_length xs = get_or xs 5 0

abbrev pub body_length : List ℕ → ℕ
body_length xs = num 4 xs 11

abbrev pub size_of : List ℕ → ℕ
size_of xs = 15 + key_length xs + body_length xs

abbrev pub arrival_of : List ℕ → Arrival
arrival_of xs =
    record { mark = get_or xs 4 0; release = get_or xs 6 0; version = get_or xs 7 0; extension = get_or xs 8 0; format = get_or xs 9 0; ts = get_or xs 10 0 }

abbrev pub first_of : List ℕ → Delivered
first_of xs =
    record {
      time = num 4 xs 0;
      arrival = arrival_of xs;
      key = take (key_length xs) (drop 15 xs);
      body = take (body_length xs) (drop (15 + key_length xs) xs);
    }

-- they are n records or fewer, each whole, and nothing else
abbrev pub whole : ℕ → List ℕ → Bool
whole zero xs = eqb (length xs) 0
whole (suc n) xs = eqb (length xs) 0 || (leb (size_of xs) (length xs) && whole n (drop (size_of xs) xs))

-- the first n records
abbrev pub records_in : ℕ → List ℕ → List Delivered
records_in zero xs = []
records_in (suc n) xs = cond (eqb (length xs) 0) [] (first_of xs ∷ records_in n (drop (size_of xs) xs))

-- 11: a cut record, or a 65th
unfoldable pub wrong_packet : List ℕ → Bool
wrong_packet xs = not (whole 64 xs)

-- the records of a packet that is none of that
unfoldable pub delivered : List ℕ → List Delivered
delivered xs = records_in 64 xs

-- A record's octets, and a packet's.
abbrev pub record_octets : Delivered → List ℕ
record_octets d =
    be 4 d.time
    ++ (d.arrival.mark ∷ length d.key ∷ d.arrival.release ∷ d.arrival.version ∷ d.arrival.extension ∷ d.arrival.format ∷ d.arrival.ts
    ∷ (be 4 (length d.body) ++ (d.key ++ d.body)))

abbrev pub packet_octets : List Delivered → List ℕ
packet_octets [] = []
packet_octets (d ∷ ds) = record_octets d ++ packet_octets ds

-- what the call that counts a packet's records answers
abbrev pub count_of : List ℕ → ℕ
count_of xs = cond (wrong_packet xs) 65 (length (delivered xs))

-- as the code answers it: refused, or their number
abbrev pub counted : Result ℕ Refusal → ℕ
counted (Ok n) = n
counted (Err refusal) = 65
