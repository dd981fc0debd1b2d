-- `checker::certificate::Certificate::records_stand` meets its contract.
-- Assumes nothing.
use Rattle.std.proofs.Common.{rules, ◌∙◌, map}
use borrow.Author.Tests.{tests}
use Rattle.std.proofs.lemmas.Iterator.{YieldsList-from_slice}
use Rattle.std.proofs.lemmas.Iterator.Consumers.{YieldsList-from_enumerate}
use Rattle.std.proofs.lemmas.Iterator.Search.{all_from_yields_List}
use Rattle.search.specs.Records.{stored_of, cut_s}
use Rattle.checker.specs.Checks.{read_tuples}
use Rattle.checker.specs.Parts.{record_checked}
use Rattle.checker.proofs.Checking.{records-all}
use Rattle.checker.proofs.certificate.Certificate.records_stand.Goals as goal

pub returns : goal.returns
returns c =
    let w = c.args.self.question.now in
    let d = c.args.self.directory.now in
    let ts = read_tuples d.dimension c.args.self.listing.now in
    let rs = c.args.self.records.now in
    let bs = map (cut_s d.dimension) (map stored_of rs) in
    all_from_yields_List (λ z. record_checked w d ts bs z.0 (cut_s d.dimension (stored_of z.1))) c.all.new.self _ _ c.all.ensures.ran
    (YieldsList-from_enumerate (YieldsList-from_slice rs cc) cc) (λ x b q k. search (rules, tests))
    ∙ records-all w d ts bs 0 rs
