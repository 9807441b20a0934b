use Rattle.requests.proofs.ReportLaws.{good_small, report_refused, report_fine}
use borrow.Author.Rules.{rules}
use Rattle.requests.proofs.report.report.Goals as goal

pub figures_text-requires : goal.figures_text-requires
figures_text-requires c = good_small _ _ c.gather.result c.in-Ok.ensures.books c.gather.ensures

pub returns-in-Ok : goal.returns-in-Ok
returns-in-Ok c = search (report_fine, rules)

pub returns-in-Err : goal.returns-in-Err
returns-in-Err c = search (report_refused, rules)
