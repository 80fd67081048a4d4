-- `reader::contents_of` meets its contract: wrong lengths are a refusal, and right ones are read on. Assumes nothing.
use mathlib.Core.Path.{sym, refl}
use native.Mathlib.Omega.{arith}
use Rattle.std.proofs.lemmas.Result.{err_from_is_err_and}
use Rattle.refusals.specs.Number.{number_positive}
use Rattle.reader.specs.Frame.{right_frame, wrong_frame}
use Rattle.reader.proofs.contents_of.Goals as goal

pub returns-in_err-f : goal.returns-in_err-f
returns-in_err-f c =
    let e = err_from_is_err_and c.from_residual.result c.from_residual.ensures.1 in
    rw (e.1, e.2) (sym (wrong_frame _ c.in_err-f.ensures (λ z. absurd (omega (arith, z, number_positive c.in_err-f.field-0.0)))))

pub read_framed-requires : goal.read_framed-requires
read_framed-requires c = right_frame _ c.in_ok-f.ensures refl
