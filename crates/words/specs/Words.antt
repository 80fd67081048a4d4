-- The manager's state as words of 32 bits, which a gateway lends to each event and may keep as they are. 360 words:
--
--   0 to 3   the node's address, four octets a word, the first octet the highest
--   4        the node's UTC offset in minutes, plus 1,439
--   5        the number of configured routes
--   6        the last time
--   7        the unrouted records since fresh
--
-- from 8 on 19 words for each of eight routes, configured or not, route 0 first:
--
--   0 to 4   the filter's twenty octets, four a word
--   5        the filter's length, then the configured release, extension and version: an octet each
--   6        the size limit
--   7        the open-time limit
--   8        the most records
--   9        the next sequence number
--   10       known losses since the last file closed
--   11       unrouted records since the last file closed
--   12       the open file's sequence number
--   13       its opening; bit 31: there is an open file
--   14       its last append
--   15       the format of its records, then its high release, extension and version: an octet each
--   16       the flag, then its low release, extension and version: an octet each
--   17       the number of its records
--   18       their octets
--
-- from 160 on a word for each of the eight, how many set minutes it has, and from 168 on 24 words for each, these minutes (document 02,
-- ask 6): no event changes them.
--
-- No bit is without a meaning, so that words and the state that they stand for determine each other (Laws). An event changes words 9 to
-- 18 of a route (16 with the flag as it was), the last time and the unrouted records. Assumes nothing.
use Rattle.std.specs.Prelude.{Bool, cond, List, [], ◌∷◌, ℕ, zero, suc, ◌+◌, ◌-◌, ◌*◌, ◌/◌, ◌%◌, leb, get_or, drop}
use Rattle.record.specs.declared.Release.{Release}
use Rattle.state.specs.declared.RouteSettings.{RouteSettings}
use Rattle.state.specs.declared.OpenFile.{OpenFile}
use Rattle.state.specs.declared.Route.{Route}
use Rattle.state.specs.declared.Node.{Node}
use Rattle.state.specs.Manager.{Manager}
use Rattle.state.specs.Manager.{node_of}

-- a word of four octets, and each of them; the highest takes what is left
abbrev pub packed : ℕ → ℕ → ℕ → ℕ → ℕ
packed a b c d = a * 16777216 + (b * 65536 + (c * 256 + d))

abbrev pub octet1 : ℕ → ℕ
octet1 w = w / 16777216

abbrev pub octet2 : ℕ → ℕ
octet2 w = w / 65536 % 256

abbrev pub octet3 : ℕ → ℕ
octet3 w = w / 256 % 256

abbrev pub octet4 : ℕ → ℕ
octet4 w = w % 256

-- a word with bit 31 for a flag
abbrev pub flagged : Bool → ℕ → ℕ
flagged b n = cond b (n + 2147483648) n

abbrev pub flag_of : ℕ → Bool
flag_of w = leb 2147483648 w

abbrev pub rest_of : ℕ → ℕ
rest_of w = cond (flag_of w) (w - 2147483648) w

-- Words read.
abbrev pub release_in : ℕ → Release
release_in w = record { release = octet2 w; extension = octet3 w; version = octet4 w }

abbrev pub octets_in : ℕ → List ℕ → List ℕ
octets_in w rest = octet1 w ∷ octet2 w ∷ octet3 w ∷ octet4 w ∷ rest

abbrev pub filter_in : ℕ → ℕ → ℕ → ℕ → ℕ → List ℕ
filter_in a b c d e = octets_in a (octets_in b (octets_in c (octets_in d (octets_in e []))))

abbrev pub address_in : ℕ → ℕ → ℕ → ℕ → List ℕ
address_in a b c d = octets_in a (octets_in b (octets_in c (octets_in d [])))

-- of a route, whose words these begin with
abbrev pub settings_in : List ℕ → RouteSettings
settings_in xs =
    record {
      filter = filter_in (get_or xs 0 0) (get_or xs 1 0) (get_or xs 2 0) (get_or xs 3 0) (get_or xs 4 0);
      octets = octet1 (get_or xs 5 0);
      limit = get_or xs 6 0;
      age = get_or xs 7 0;
      most = get_or xs 8 0;
      flag = octet1 (get_or xs 16 0);
      release = release_in (get_or xs 5 0);
    }

abbrev pub file_in : List ℕ → OpenFile
file_in xs =
    record {
      sequence = get_or xs 12 0;
      opened = rest_of (get_or xs 13 0);
      appended = get_or xs 14 0;
      high = release_in (get_or xs 15 0);
      low = release_in (get_or xs 16 0);
      format = octet1 (get_or xs 15 0);
      count = get_or xs 17 0;
      octets = get_or xs 18 0;
    }

unfoldable pub route_in : List ℕ → Route
route_in xs =
    record {
      settings = settings_in xs;
      next = get_or xs 9 0;
      losses = get_or xs 10 0;
      unrouted = get_or xs 11 0;
      «open» = flag_of (get_or xs 13 0);
      file = file_in xs;
    }

-- n routes, one behind another
abbrev pub routes_in : List ℕ → ℕ → List Route
routes_in xs zero = []
routes_in xs (suc n) = route_in xs ∷ routes_in (drop 19 xs) n

-- the state
unfoldable pub manager_in : List ℕ → Manager
manager_in xs =
    record {
      routes = routes_in (drop 8 xs) 8;
      count = get_or xs 5 0;
      address = address_in (get_or xs 0 0) (get_or xs 1 0) (get_or xs 2 0) (get_or xs 3 0);
      bias = get_or xs 4 0;
      last = get_or xs 6 0;
      unrouted = get_or xs 7 0;
      set_times = drop 160 xs;
    }

-- Words written.
abbrev pub with_release : ℕ → Release → ℕ
with_release top r = packed top r.release r.extension r.version

-- the word of the four octets from k on
abbrev pub four_at : List ℕ → ℕ → ℕ
four_at xs k = packed (get_or xs k 0) (get_or xs (k + 1) 0) (get_or xs (k + 2) 0) (get_or xs (k + 3) 0)

-- twenty octets, of a filter or a key, in five words; those that are not there count as 0
abbrev pub five_words : List ℕ → List ℕ
five_words xs = four_at xs 0 ∷ four_at xs 4 ∷ four_at xs 8 ∷ four_at xs 12 ∷ four_at xs 16 ∷ []

-- what stays of a route, and what an event may change
abbrev pub fixed_words : RouteSettings → List ℕ → List ℕ
fixed_words s rest =
    four_at s.filter 0
    ∷ four_at s.filter 4
    ∷ four_at s.filter 8
    ∷ four_at s.filter 12
    ∷ four_at s.filter 16
    ∷ with_release s.octets s.release
    ∷ s.limit
    ∷ s.age
    ∷ s.most
    ∷ rest

abbrev pub changing_words : Route → List ℕ → List ℕ
changing_words r rest =
    r.next
    ∷ r.losses
    ∷ r.unrouted
    ∷ r.file.sequence
    ∷ flagged r.«open» r.file.opened
    ∷ r.file.appended
    ∷ with_release r.file.format r.file.high
    ∷ with_release r.settings.flag r.file.low
    ∷ r.file.count
    ∷ r.file.octets
    ∷ rest

abbrev pub route_words : Route → List ℕ → List ℕ
route_words r rest = fixed_words r.settings (changing_words r rest)

abbrev pub routes_words : List Route → List ℕ → List ℕ
routes_words [] rest = rest
routes_words (r ∷ rs) rest = route_words r (routes_words rs rest)

-- the node, and how many routes are configured
abbrev pub node_words : Node → ℕ → List ℕ → List ℕ
node_words n count rest =
    four_at n.address 0
    ∷ four_at n.address 4
    ∷ four_at n.address 8
    ∷ four_at n.address 12
    ∷ n.bias
    ∷ count
    ∷ rest

unfoldable pub words_of : Manager → List ℕ
words_of m = node_words (node_of m) m.count (m.last ∷ m.unrouted ∷ routes_words m.routes m.set_times)
