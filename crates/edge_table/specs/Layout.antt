-- The table of the state's words (words, Words.antt) by evaluation: a state with another value in each field, its words in their places, and
-- the state that they stand for. Encoding and decoding undo each other by a law, so that a field in a wrong place would pass
-- there; here it would not. Assumes nothing.
use Rattle.std.specs.Prelude.{◌≡◌, refl, true, List, [], ◌∷◌, ◌++◌, ℕ, replicate, take, drop}
use Rattle.refusals.specs.Below.{list_from}
use Rattle.state.specs.declared.Route.{Route}
use Rattle.state.specs.Manager.{Manager}
use Rattle.settings.specs.Settings.{unused_route}
use Rattle.words.specs.Words.{route_in, manager_in, words_of}

-- a route with an open file
abbrev route : Route
route =
    record {
      settings =
          record {
            filter = 1 ∷ 2 ∷ 3 ∷ 4 ∷ 5 ∷ 6 ∷ 7 ∷ 8 ∷ 9 ∷ 10 ∷ 11 ∷ 12 ∷ 13 ∷ 14 ∷ 15 ∷ 16 ∷ 17 ∷ 18 ∷ 19 ∷ 20 ∷ [];
            octets = 20;
            limit = 128;
            age = 60;
            most = 10;
            flag = 1;
            release = record { release = 7; extension = 2; version = 3 };
          };
      next = 4294967295;
      losses = 40000;
      unrouted = 13;
      «open» = true;
      file =
          record {
            sequence = 6;
            opened = 100;
            appended = 101;
            high = record { release = 7; extension = 8; version = 9 };
            low = record { release = 4; extension = 0; version = 5 };
            format = 2;
            count = 11;
            octets = 44;
          };
    }

abbrev state : Manager
state =
    record {
      routes = route ∷ replicate 7 unused_route;
      count = 1;
      address = 21 ∷ 22 ∷ 23 ∷ 24 ∷ 25 ∷ 26 ∷ 27 ∷ 28 ∷ 29 ∷ 30 ∷ 31 ∷ 32 ∷ 33 ∷ 34 ∷ 35 ∷ 36 ∷ [];
      bias = 1379;
      last = 102;
      unrouted = 12;
      set_times = 24 ∷ 1 ∷ (replicate 6 0 ++ (list_from (λ (n : ℕ). n) 201 24 ++ (300 ∷ replicate 167 0)));
    }

-- the node's words, and the route's behind them
abbrev words : List ℕ
words =
    0x15161718 ∷ 0x191A1B1C ∷ 0x1D1E1F20 ∷ 0x21222324
    ∷ 1379 ∷ 1 ∷ 102 ∷ 12
    ∷ 0x01020304 ∷ 0x05060708 ∷ 0x090A0B0C ∷ 0x0D0E0F10 ∷ 0x11121314
    ∷ 0x14070203
    ∷ 128 ∷ 60 ∷ 10
    ∷ 4294967295 ∷ 40000 ∷ 13
    ∷ 6
    ∷ 0x80000064 ∷ 101
    ∷ 0x02070809 ∷ 0x01040005
    ∷ 11 ∷ 44
    ∷ []

pub places : take 27 (words_of state) ≡ words
unfolding words_of
places = refl

-- the set minutes behind the routes: of route 0 twenty-four, of route 1 one
pub set_places : take 34 (drop 160 (words_of state)) ≡ 24 ∷ 1 ∷ (replicate 6 0 ++ (list_from (λ (n : ℕ). n) 201 24 ++ (300 ∷ 0 ∷ [])))
unfolding words_of
set_places = refl

-- and read back
pub read_back : manager_in (words_of state) ≡ state
unfolding words_of manager_in route_in
read_back = refl
