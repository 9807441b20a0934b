use Rattle.tables.specs.Format.{put_titles, put_owned, put_label}
use Rattle.tables.proofs.fresh.write_label.Goals as goal

pub returns : goal.returns
unfolding put_titles put_owned put_label
returns c = cc
