use Rattle.examination.proofs.WholeLaws.{two_says}
use Rattle.examination.proofs.whole.two_whole.Goals as goal

pub returns : goal.returns
returns c = two_says c.args.s.now c.args.base c.args.at.0 c.wide-x.result c.requires.at_value c.wide-x.ensures.0 c.wide-x.ensures.1
