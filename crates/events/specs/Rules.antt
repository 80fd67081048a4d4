-- The rules of the gateway that the events carry out, on a route and on a record (document 01, Routing and loss, The events):
-- opening, appending, closing, when a file closes with 5, 1 or 3, and which record fields are right. Assumes nothing.
use Rattle.std.specs.Prelude.{ℕ, ◌+◌, ◌%◌, ◌^◌, Bool, true, false, cond, not, ◌&&◌, ◌||◌, ltb, List, ◌==◌, nat_le, nat_lt}
use Rattle.record.specs.declared.Release.{Release}
use Rattle.record.specs.declared.RecordHeader.{RecordHeader}
use Rattle.record.specs.Release.{rank, header_length}
use Rattle.state.specs.declared.RouteSettings.{RouteSettings}
use Rattle.state.specs.declared.OpenFile.{OpenFile}
use Rattle.state.specs.declared.Route.{Route}
use Rattle.state.specs.Manager.{Manager}
use Rattle.state.specs.Routing.{Routed}
use Rattle.state.specs.Manager.{no_file}
use Rattle.state.specs.Size.{header_size}
use Rattle.state.specs.Bounds.{same_release}
use Rattle.state.specs.Routing.{nobody, route_of}
use Rattle.state.specs.Compared.{compared_for}
use Rattle.events.specs.declared.Arrival.{Arrival}

-- an opening takes the next sequence number, and the number after 4,294,967,295 is 0; an empty file has the configured release
abbrev pub opened_file : RouteSettings → ℕ → ℕ → OpenFile
opened_file s sequence t =
    record { sequence = sequence; opened = t; appended = t; high = s.release; low = s.release; format = 0; count = 0; octets = 0 }

abbrev pub opened_route : Route → ℕ → Route
opened_route r t =
    record {
      settings = r.settings;
      next = (r.next + 1) % 2 ^ 32;
      losses = r.losses;
      unrouted = r.unrouted;
      «open» = true;
      file = opened_file r.settings r.next t;
    }

-- a closing clears the known losses and the unrouted records
abbrev pub closed_route : Route → Route
closed_route r =
    record { settings = r.settings; next = r.next; losses = 0; unrouted = 0; «open» = false; file = no_file }

-- a lost record is one more known loss
abbrev pub lost_route : Route → Route
lost_route r =
    record { settings = r.settings; next = r.next; losses = r.losses + 1; unrouted = r.unrouted; «open» = r.«open»; file = r.file }

-- an unrouted record is one more unrouted record of a route's time
abbrev pub noted_route : Route → Route
noted_route r =
    record { settings = r.settings; next = r.next; losses = r.losses; unrouted = r.unrouted + 1; «open» = r.«open»; file = r.file }

-- the greater and the lesser of two releases
abbrev pub later : Release → Release → Release
later a b = cond (nat_lt (rank a) (rank b)) b a

abbrev pub earlier : Release → Release → Release
earlier a b = cond (nat_lt (rank b) (rank a)) b a

-- high and low of a file with one record more: an empty file takes the record's release, whatever was configured
abbrev pub high_with : OpenFile → Release → Release
high_with f r = cond (f.count == 0) r (later f.high r)

abbrev pub low_with : OpenFile → Release → Release
low_with f r = cond (f.count == 0) r (earlier f.low r)

-- a file with one record more, of so many octets
abbrev pub appended_file : OpenFile → RecordHeader → ℕ → ℕ → OpenFile
appended_file f h octets t =
    record {
      sequence = f.sequence;
      opened = f.opened;
      appended = t;
      high = high_with f h.release;
      low = low_with f h.release;
      format = h.format;
      count = f.count + 1;
      octets = f.octets + octets;
    }

abbrev pub appended_route : Route → RecordHeader → ℕ → ℕ → Route
appended_route r h octets t =
    record { settings = r.settings; next = r.next; losses = r.losses; unrouted = r.unrouted; «open» = r.«open»; file = appended_file r.file h octets t }

-- reason 5: the open file has records, and their format differs from the new one's, or the flag is 1 and their release,
-- extension or version does
abbrev pub differs : Route → RecordHeader → Bool
differs r h =
    r.«open»
    && nat_lt 0 r.file.count
    && (not (r.file.format == h.format) || (r.settings.flag == 1 && not (same_release r.file.high h.release)))

-- reason 1: the file with this record would exceed the size limit; its header is that of the new high and low
abbrev pub exceeds : Route → RecordHeader → ℕ → Bool
exceeds r h octets =
    r.«open»
    && ltb r.settings.limit
    (header_size r.settings.octets (high_with r.file h.release) (low_with r.file h.release) + r.file.octets + octets)

-- reason 3: the count equals its limit
abbrev pub full : Route → Bool
full r = nat_lt 0 r.settings.most && r.file.count == r.settings.most

-- TICK: the age of an open file has reached a limit above 0; age is effective time minus opening time
abbrev pub due : ℕ → Route → Bool
due t r = r.«open» && nat_lt 0 r.settings.age && nat_le (r.file.opened + r.settings.age) t

-- or a set minute has fallen since its opening (document 02, ask 6)
abbrev pub ending : ℕ → Route → Bool → Bool
ending t r met = due t r || (r.«open» && met)

-- reasons that CLOSE may give: 0, 4 or 128 to 131
abbrev pub allowed : ℕ → Bool
allowed reason = reason == 0 || reason == 4 || (nat_le 128 reason && nat_le reason 131)

-- 5: mark above 2; mark below 2 with key over 20; mark 0 with release or format above 7, version or TS number above 31,
-- extension not 0 below release 7
abbrev pub wrong_fields : Arrival → ℕ → Bool
wrong_fields a key =
    nat_lt 2 a.mark
    || (nat_lt a.mark 2 && nat_lt 20 key)
    || (a.mark == 0
    && (nat_lt 7 a.release || nat_lt 7 a.format || nat_lt 31 a.version || nat_lt 31 a.ts || (nat_lt a.release 7 && not (a.extension == 0))))

-- the record header that an arrival describes
abbrev pub header_for : Arrival → RecordHeader
header_for a =
    record { release = record { release = a.release; extension = a.extension; version = a.version }; format = a.format; ts = a.ts }

-- the octets of the record with a body so long
abbrev pub record_size : Arrival → ℕ → ℕ
record_size a body = header_length (header_for a).release + body

-- where a record goes: mark 2 says that nothing is to be trusted
abbrev pub routed_to : Manager → Arrival → List ℕ → Routed
routed_to m a key = cond (a.mark == 2) nobody (route_of m key)

-- and the octets of filters that are compared for it (document 02, ask 7)
abbrev pub compared_to : Manager → Arrival → List ℕ → ℕ
compared_to m a key = cond (a.mark == 2) 0 (compared_for m key)
