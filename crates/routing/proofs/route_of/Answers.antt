use Rattle.std.proofs.Common.{◌≡◌, ap, sym, ◌∙◌, ◌+◌, arith}
use native.Mathlib.Numerals.{add-one}
use Rattle.state.specs.declared.RouteSettings.{RouteSettings}
use Rattle.state.specs.Manager.{settings_at}
use Rattle.state.specs.Routing.{Routed, better, among, route_of}
use Rattle.state.specs.Compared.{compared_with, compared_among, compared_for, with_octets, among_most}
use Rattle.words.specs.Words.{settings_in, manager_in}
use Rattle.words.specs.Laws.{settings_there}
use Rattle.routing.specs.Best.{none_among}
use Rattle.routing.proofs.route_of.Goals as goal

pub counted_with-c-requires : goal.counted_with-c-requires
counted_with-c-requires c =
    let i = c.loop-i.i in
    let m = manager_in c.args.words.now in
    let key = c.args.key.now in
    let part = ap settings_in c.route_words.ensures ∙ settings_there c.args.words.now i (omega arith) in
    let octets = ap (λ (s : RouteSettings). s.octets) part in
    -- each of those before it has cost at most 20
    let most = among_most m key 20 i (λ j h. omega (arith, with_octets (settings_at m j) key, c.requires.short j (omega arith))) in (
      omega (arith, octets, c.requires.short i (omega arith)),
      c.key_words-five.ensures,
      omega (arith, most, c.loop-i.invariant.1),
    )

pub loop-i-preserved : goal.loop-i-preserved
loop-i-preserved c =
    let l = c.loop-i in
    let part = ap settings_in c.route_words.ensures ∙ settings_there c.args.words.now l.i (omega arith) in
    let key = c.args.key.now in (
      rw add-one (c.counted_with-c.ensures.0 ∙ (λ i. better (l.invariant.0 i) l.i (part i) key)),
      rw add-one (c.counted_with-c.ensures.1 ∙ (λ i. l.invariant.1 i + compared_with (part i) key)),
    )

pub found_in-requires : goal.found_in-requires
found_in-requires c =
    let l = c.loop-i in
    λ none. l.invariant.0 ∙ none_among (manager_in c.args.words.now) c.args.key.now l.i (sym (ap (λ (r : Routed). r.found) l.invariant.0) ∙ none)

pub returns : goal.returns
unfolding route_of compared_for
returns c =
    let l = c.loop-i in
    let a = c.args in
    let e : l.i ≡ (manager_in a.words.now).count = omega arith in
    (c.found_in.ensures ∙ l.invariant.0 ∙ ap (among (manager_in a.words.now) a.key.now) e, l.invariant.1 ∙ ap (compared_among (manager_in a.words.now) a.key.now) e)
