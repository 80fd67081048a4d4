-- The lost indicator by evaluation (000, 6.1.1.11; document 01, Routing and loss), at each end of the clause's six cases and within them. Manager and
-- ledger share the formula, so a mistake in it shows here or in the law that it meets (`indicator_true`, state).
use Rattle.std.specs.Prelude.{◌≡◌, refl, true, false}
use Rattle.state.specs.Loss.{indicator}

-- of n counted losses, each n without an unrouted record and with one
abbrev pub Indicators : Type 0
Indicators =
    -- 0: none was lost; some, how many is unknown
    (indicator 0 false ≡ 0) × (indicator 0 true ≡ 128)
    -- 1: exactly 1; at least 1
    × (indicator 1 false ≡ 129) × (indicator 1 true ≡ 1)
    -- 3: exactly 3; at least 3
    × (indicator 3 false ≡ 131) × (indicator 3 true ≡ 3)
    -- 126, the last that the octet tells: exactly 126; at least 126
    × (indicator 126 false ≡ 254) × (indicator 126 true ≡ 126)
    -- 127: 127 or more, all of them counted; at least 127
    × (indicator 127 false ≡ 255) × (indicator 127 true ≡ 127)
    -- 200: the same octets as for 127
    × (indicator 200 false ≡ 255) × (indicator 200 true ≡ 127)

pub indicators : Indicators
indicators = (refl, refl, refl, refl, refl, refl, refl, refl, refl, refl, refl, refl)
