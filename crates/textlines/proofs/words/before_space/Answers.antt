use Rattle.std.proofs.Common.{rules, tests, arith, ◌≡◌, ◌∙◌, ap, ◌≤◌, ℕ, Option, Some, None, cond, ltb, length, not}
use Rattle.std.proofs.lemmas.Bool.Decides.{nat_tests}
use Rattle.std.specs.Option.{unwrap_or}
use Rattle.std.specs.List.{position_or_len}
use Rattle.std.proofs.lemmas.List.Sums.{prefix_len-le-length}
use Rattle.std.proofs.lemmas.Iterator.{YieldsList-from_slice}
use Rattle.std.proofs.lemmas.Iterator.Search.{position_from_yields_List}
use Rattle.textlines.specs.Words.{is_space}
use Rattle.textlines.proofs.words.before_space.Goals as goal

-- the first place, or the length
counted : (k n : ℕ) → k ≤ n → unwrap_or (cond (ltb k n) (Some k) None) n ≡ k
counted k n h = grind (arith, nat_tests)

pub returns : goal.returns
returns c =
    let xs = c.args.octets.now in
    let few = prefix_len-le-length (λ x. not (is_space x)) xs in
    let found = position_from_yields_List is_space _ _ c.position.result c.position.ensures.ran (YieldsList-from_slice xs cc) (λ x b q k. search (rules, tests)) in
    let here = c.unwrap_or.ensures ∙ ap (λ (r : Option ℕ). unwrap_or r (length xs)) found ∙ counted (position_or_len is_space xs) (length xs) few in
    (here, omega (arith, few, here))
