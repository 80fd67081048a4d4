-- `cdrfile::fixed_octets` meets its contract: what is written one behind another over 50 octets is all of them. Assumes nothing.
use mathlib.Core.Path.{◌≡◌, refl, sym, ap, ◌∙◌}
use mathlib.Core.List.{[]}
use lib.Dec.{lit<}
use borrow.Author.Rules.{rules}
use lib.ListN.{length, replicate, set}
use Rattle.octets.specs.Number.{be, be_bytes, octets_at, octets_all}
use Rattle.octets.specs.Splice.{splice, splice_nil}
use Rattle.timestamp.specs.Timestamp.{word_of}
use Rattle.record.specs.Release.{release_octet}
use Rattle.cdrfile.specs.File.{fixed_octets}
use Rattle.cdrfile.specs.Laws.{Laid, laid_more, laid_octet, laid_whole}
use Rattle.cdrfile.proofs.fixed_octets.Goals as goal

pub returns : goal.returns
unfolding fixed_octets
returns c =
    let a = c.args in
    let h = a.h in
    let n : length h.address ≡ 20 = search rules in
    let start : Laid (replicate 50 0) (replicate 50 0) [] = record { is = sym (splice_nil (replicate 50 0) 0) } in
    let l4 = laid_more 0 (be 4 a.length) start (c.copy.ensures ∙ ap (splice _ 0) (c.to_be_bytes.ensures ∙ be_bytes _)) refl in
    let l8 = laid_more 4 (be 4 a.header) l4 (c.copy-2.ensures ∙ ap (splice _ 4) (c.to_be_bytes-2.ensures ∙ be_bytes _)) refl in
    let l9 = laid_octet 8 (release_octet h.high) l8 (ap (set c.copy-2.new.dst 8) c.release_octet.ensures) refl (lit< tt) in
    let l10 = laid_octet 9 (release_octet h.low) l9 (ap (set _ 9) c.release_octet-2.ensures) refl (lit< tt) in
    let l14 = laid_more 10 (be 4 (word_of h.opened)) l10 (c.copy-3.ensures ∙ ap (splice _ 10) (c.to_be_bytes-3.ensures ∙ be_bytes _ ∙ ap (be 4) c.pack.ensures)) refl in
    let l18 = laid_more 14 (be 4 (word_of h.appended)) l14 (c.copy-4.ensures ∙ ap (splice _ 14) (c.to_be_bytes-4.ensures ∙ be_bytes _ ∙ ap (be 4) c.pack-2.ensures)) refl in
    let l22 = laid_more 18 (be 4 a.count) l18 (c.copy-5.ensures ∙ ap (splice _ 18) (c.to_be_bytes-5.ensures ∙ be_bytes _)) refl in
    let l26 = laid_more 22 (be 4 h.sequence) l22 (c.copy-6.ensures ∙ ap (splice _ 22) (c.to_be_bytes-6.ensures ∙ be_bytes _)) refl in
    let l27 = laid_octet 26 h.reason l26 refl refl (lit< tt) in
    let l47 = laid_more 27 (octets_at 20 h.address 0) l27 (c.copy-7.ensures ∙ ap (splice _ 27) (sym (octets_all 20 h.address n))) refl in
    let l48 = laid_octet 47 h.lost l47 refl refl (lit< tt) in
    let l50 = laid_more 48 (be 2 a.filter) l48 (c.copy-8.ensures ∙ ap (splice _ 48) c.be.ensures) refl in
    laid_whole l50 refl
