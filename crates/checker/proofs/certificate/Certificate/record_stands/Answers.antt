-- `checker::certificate::Certificate::record_stands` meets its contract: by the kind of the record.
-- Assumes nothing.
use Rattle.std.proofs.Common.{◌≡◌, sym, ap, ◌∙◌, Some, map, length, take, arith}
use lib.Seq.{length-take-le}
use Rattle.boxes.proofs.Lists.{take-map}
use Rattle.search.specs.Records.{stored_of, cut_s}
use Rattle.checker.specs.Checks.{read_tuples}
use Rattle.checker.specs.Parts.{tuple_checked, resolvent_checked}
use Rattle.checker.proofs.Checking.{record_is}
use Rattle.checker.proofs.certificate.Certificate.record_stands.Goals as goal

pub returns-in-Some-Gap : goal.returns-in-Some-Gap
returns-in-Some-Gap c =
    c.gap_stands.ensures
    ∙ record_is c.args.self.question.now c.args.self.directory.now _ c.args.self.sized.few _ c.args.number c.args.words.now (sym c.of.ensures ∙ c.in-Some-Gap.is ∙ ap Some c.in-Some-Gap.field-0-is)

pub returns-in-Some-Tuple : goal.returns-in-Some-Tuple
returns-in-Some-Tuple c =
    let d = c.args.self.directory.now in
    let x = take d.dimension c.args.words.now in
    c.tuple_stands.ensures
    ∙ ap (λ ws. tuple_checked ws (read_tuples (length ws) c.args.self.listing.now) c.in-Some-Tuple.place x) c.widths.ensures
    ∙ ap (λ n. tuple_checked (take d.dimension d.widths) (read_tuples n c.args.self.listing.now) c.in-Some-Tuple.place x) c.args.self.sized.widths
    ∙ record_is c.args.self.question.now d _ c.args.self.sized.few _ c.args.number c.args.words.now (sym c.of.ensures ∙ c.in-Some-Tuple.is ∙ ap Some c.in-Some-Tuple.field-0-is)

pub returns-in-Some-Resolvent : goal.returns-in-Some-Resolvent
returns-in-Some-Resolvent c =
    let d = c.args.self.directory.now in
    let rs = c.args.self.records.now in
    let n = d.dimension in
    let x = take n c.args.words.now in
    let long : length x ≡ n = length-take-le n c.args.words.now (omega (arith, c.told-words, c.args.self.sized.few)) in
    let front = ap (map (cut_s n)) (sym (take-map stored_of c.args.number rs)) ∙ sym (take-map (cut_s n) c.args.number (map stored_of rs)) in
    c.resolvent_stands.ensures
    ∙ ap (λ m. resolvent_checked (map (cut_s m) (map stored_of (take c.args.number rs))) c.in-Some-Resolvent.first c.in-Some-Resolvent.second x) long
    ∙ ap (λ bs. resolvent_checked bs c.in-Some-Resolvent.first c.in-Some-Resolvent.second x) front
    ∙ record_is c.args.self.question.now d _ c.args.self.sized.few _ c.args.number c.args.words.now (sym c.of.ensures ∙ c.in-Some-Resolvent.is ∙ ap Some c.in-Some-Resolvent.field-0-is)
