-- `words::reading::route_words` meets its contract: the routes' words are chunks of those between the node's and the set minutes. Assumes nothing.
use Rattle.std.proofs.Common.{◌≡◌, ◌∙◌, ap, List, [], ℕ, ◌*◌, ◌/◌, take, drop, get_or, length, length-take, length-drop, lit≤, arith}
use Rattle.std.specs.Simd.{first_chunks}
use Rattle.std.proofs.lemmas.List.{drop-drop}
use Rattle.words.proofs.Chunks.{chunk_at}
use Rattle.words.proofs.reading.route_words.Goals as goal

pub returns : goal.returns
returns c =
    let i = c.args.i in
    let xs = c.args.words.now in
    let long : length (take 152 (drop 8 xs)) ≡ 152 = omega (arith, length-take 152 (drop 8 xs), length-drop 8 xs, c.type_inv.words) in
    let eight : length (take 152 (drop 8 xs)) / 19 ≡ 8 = ap (λ (n : ℕ). n / 19) long in
    ap (λ (l : List (List ℕ)). get_or l i []) (c.as_chunks.ensures.front ∙ ap (λ (n : ℕ). first_chunks 19 n (take 152 (drop 8 xs))) eight)
    ∙ chunk_at 19 8 152 (drop 8 xs) i (lit≤ tt) c.requires
    ∙ ap (take 19) (drop-drop (19 * i) 8 xs)
