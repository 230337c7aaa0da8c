-- `octets::find` meets its contract: the library's search counts the bytes before the first that is sought.
-- Assumes nothing.
use Rattle.std.proofs.Common.{◌≡◌, rules, nat_eq}
use borrow.Author.Tests.{tests}
use Rattle.std.specs.List.{position}
use Rattle.std.proofs.lemmas.Iterator.{YieldsList-from_slice}
use Rattle.std.proofs.lemmas.Iterator.Search.{position_from_yields_List}
use Rattle.octets.proofs.FindLaws.{unwrap_or-position}
use Rattle.octets.proofs.find.Goals as goal

pub returns-clause-value : goal.returns-clause-value
returns-clause-value c =
    let e : c.position.result ≡ position (λ x. nat_eq x c.args.byte) c.args.row.now =
    position_from_yields_List _ _ _ _ c.position.ensures.ran (YieldsList-from_slice c.args.row.now cc)
    (λ x b q k. search (rules, tests)) in
    rw (c.unwrap_or.ensures, e) (unwrap_or-position c.args.byte c.args.row.now)
