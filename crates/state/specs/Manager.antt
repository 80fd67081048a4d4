-- The manager's state as the definitions see it: its routes by number, their regions of the store (document 01, The events),
-- and the effective time. Assumes nothing.
use Rattle.std.specs.Prelude.{false, List, [], ℕ, zero, suc, ◌+◌, max, min, get_or, set, take}
use Rattle.record.specs.declared.Release.{Release}
use Rattle.state.specs.declared.RouteSettings.{RouteSettings}
use Rattle.state.specs.declared.OpenFile.{OpenFile}
use Rattle.state.specs.declared.Route.{Route}
use Rattle.state.specs.declared.Node.{Node}

-- the manager: up to eight routes of which `count` are configured, the node's address and UTC offset plus 1,439, the effective time of
-- the last accepted event, the number of unrouted records since fresh, and the routes' set minutes (SetTimes)
pub record Manager : Type 0 where
  pub routes : List Route
  pub count : ℕ
  pub address : List ℕ
  pub bias : ℕ
  pub last : ℕ
  pub unrouted : ℕ
  pub set_times : List ℕ

abbrev pub no_release : Release
no_release = record { release = 0; extension = 0; version = 0 }

abbrev pub no_file : OpenFile
no_file = record { sequence = 0; opened = 0; appended = 0; high = no_release; low = no_release; format = 0; count = 0; octets = 0 }

-- what stands for a route that is not there
abbrev pub no_route : Route
no_route =
    record {
      settings = record { filter = []; octets = 0; limit = 0; age = 0; most = 0; flag = 0; release = no_release };
      next = 0;
      losses = 0;
      unrouted = 0;
      «open» = false;
      file = no_file;
    }

abbrev pub route_at : Manager → ℕ → Route
route_at m i = get_or m.routes i no_route

abbrev pub settings_at : Manager → ℕ → RouteSettings
settings_at m i = (route_at m i).settings

-- the node that every header names
abbrev pub node_of : Manager → Node
node_of m = record { address = m.address; bias = m.bias }

-- the filter's octets that count
abbrev pub filter_of : RouteSettings → List ℕ
filter_of s = take s.octets s.filter

-- where a route's region of the store starts: behind those of the routes before it, each as long as its size limit
abbrev pub base : Manager → ℕ → ℕ
base m zero = 0
base m (suc n) = base m n + (settings_at m n).limit

-- how long all regions are together; there are at most eight routes
abbrev pub regions : Manager → ℕ
regions m = base m (min m.count 8)

-- *effective time*: the later of the event's time and the last time
abbrev pub effective : Manager → ℕ → ℕ
effective m time = max m.last time

-- the state with a route, and with a time, changed
abbrev pub with_route : Manager → ℕ → Route → Manager
with_route m i r =
    record { routes = set m.routes i r; count = m.count; address = m.address; bias = m.bias; last = m.last; unrouted = m.unrouted; set_times = m.set_times }

abbrev pub with_time : Manager → ℕ → Manager
with_time m t =
    record { routes = m.routes; count = m.count; address = m.address; bias = m.bias; last = t; unrouted = m.unrouted; set_times = m.set_times }
