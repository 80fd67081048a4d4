-- `reader::private_frame` meets its contract: each way out is a case of refusal 9 or the whole frame. Assumes nothing.
use mathlib.Core.Path.{◌≡◌, ◌∙◌, sym, ap}
use Prim.Native.Nat.{ℕ, ◌+◌, ◌<◌}
use native.Mathlib.Omega.{arith}
use mathlib.Core.Bool.{cond}
use lib.Dec.{eqb}
use Rattle.octets.specs.Number.{num}
use Rattle.reader.specs.Places.{header_length_at, plain_length, private_length_at}
use Rattle.reader.specs.Frame.{unsummed, private_taken}
use Rattle.reader.proofs.private_frame.Goals as goal
use Rattle.reader.proofs.private_frame.Goals.{After-num-octets, Start}

-- what the caller has read is what the definitions say
more : (s : goal.Start) → plain_length s.args.file.now < header_length_at s.args.file.now
more s = let f = s.requires.framed in omega (arith, f.is_header, f.is_plain, s.requires.plain_lt_header)

octets : (c : goal.After-num-octets) → c.num-octets.result ≡ private_length_at c.args.file.now
octets c = c.num-octets.ensures ∙ ap (λ (k : ℕ). num 2 c.args.file.now (50 + k)) c.requires.framed.is_filter

pub returns-then-header-plain : goal.returns-then-header-plain
returns-then-header-plain c =
    let f = c.requires.framed in
    sym (unsummed c.args.file.now (more (goal.at.returns-then-header-plain c).Start) (λ e. omega (arith, f.is_header, f.is_plain, c.if-header-plain.true)))

pub returns-then-header-plain-2 : goal.returns-then-header-plain-2
returns-then-header-plain-2 c =
    let f = c.requires.framed in
    let p = octets (goal.at.returns-then-header-plain-2 c).After-num-octets in
    sym (unsummed c.args.file.now (more (goal.at.returns-then-header-plain-2 c).Start) (λ e. c.if-header-plain-2.true (omega (arith, f.is_header, f.is_plain))))

pub returns : goal.returns
returns c =
    let f = c.requires.framed in
    let p = octets (goal.at.returns c).After-num-octets in
    (λ i. record { refusal = 0; header = f.is_header i; filter = f.is_filter i; statement = (c.statement_of.ensures ∙ ap (λ (k : ℕ). cond (eqb k 0) 1 2) p) i; private = record { start = 52 + f.is_filter i; octets = p i } })
    ∙ sym (private_taken c.args.file.now (more (goal.at.returns c).Start) (omega (arith, f.is_header, c.requires.plain_lt_header)) (omega (arith, f.is_header, f.is_plain, c.if-header-plain-2.false)))
