-- The number of each refusal (document 01, Refusals; document 02, asks 1, 6 and 9), and what a test that may refuse says by its number: 0 where it
-- passes. Assumes nothing.
use Rattle.std.specs.Prelude.{ℕ, ◌<◌, Result, Ok, Err}
use Rattle.std.proofs.Common.{lit<}
use Rattle.refusals.specs.declared.Refusal.{Refusal}
use Rattle.refusals.specs.declared.Refusal.TheVariants.{Shape, Range, Filters, Time, Fields, Route, Reason, Length, Header, Value, Record, Count, Order, Open, NotOpen, Store, Output, State, Counter, Name, NameOutput, SetTime, File}

-- settings: an unknown kind, cut, wrong order or count; a value beyond its range; two equal filters
-- an event's time, its record's fields, its route, its reason
-- a file: its length, its header's, a value; a record, their count, high or low
-- the route has an open file, or none; the store and the output are too short; the state is outside its bounds; a loss counter is full
-- a file name, and an output shorter than it; a set time of day; a file that the reader refuses
abbrev pub number : Refusal → ℕ
number Shape = 1
number Range = 2
number Filters = 3
number Time = 4
number Fields = 5
number Route = 6
number Reason = 7
number Length = 8
number Header = 9
number Value = 10
number Record = 11
number Count = 12
number Order = 13
number Open = 14
number NotOpen = 15
number Store = 16
number (Output n) = 17
number State = 18
number Counter = 19
number Name = 20
number NameOutput = 21
number SetTime = 22
number File = 23

-- the octets that 17 says are needed; no other refusal has any
abbrev pub needed : Refusal → ℕ
needed Shape = 0
needed Range = 0
needed Filters = 0
needed Time = 0
needed Fields = 0
needed Route = 0
needed Reason = 0
needed Length = 0
needed Header = 0
needed Value = 0
needed Record = 0
needed Count = 0
needed Order = 0
needed Open = 0
needed NotOpen = 0
needed Store = 0
needed (Output n) = n
needed State = 0
needed Counter = 0
needed Name = 0
needed NameOutput = 0
needed SetTime = 0
needed File = 0

-- 0 where a test passes, else its refusal's number
abbrev pub number_of : {A : Type 0} → Result A Refusal → ℕ
number_of (Ok x) = 0
number_of (Err r) = number r

-- no refusal has the number 0
pub number_positive : (r : Refusal) → 0 < number r
number_positive Shape = lit< tt
number_positive Range = lit< tt
number_positive Filters = lit< tt
number_positive Time = lit< tt
number_positive Fields = lit< tt
number_positive Route = lit< tt
number_positive Reason = lit< tt
number_positive Length = lit< tt
number_positive Header = lit< tt
number_positive Value = lit< tt
number_positive Record = lit< tt
number_positive Count = lit< tt
number_positive Order = lit< tt
number_positive Open = lit< tt
number_positive NotOpen = lit< tt
number_positive Store = lit< tt
number_positive (Output n) = lit< tt
number_positive State = lit< tt
number_positive Counter = lit< tt
number_positive Name = lit< tt
number_positive NameOutput = lit< tt
number_positive SetTime = lit< tt
number_positive File = lit< tt
