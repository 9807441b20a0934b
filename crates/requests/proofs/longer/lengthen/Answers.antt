use Rattle.requests.proofs.LongerLaws.{lengthen_not, lengthen_done, lengthen_adds, lengthen_parent}
use borrow.Author.Rules.{rules}
use Rattle.requests.proofs.longer.lengthen.Goals as goal

pub returns-then-byte_length-long : goal.returns-then-byte_length-long
returns-then-byte_length-long c = search lengthen_not

pub grow_file-requires : goal.grow_file-requires
grow_file-requires c =
    record {
      provided_some = lengthen_adds _ _ _ _ c.read_places-p.ensures _ c.table.ensures.0 _ c.byte_length.ensures
          _ c.requires.good_some c.requires.gate c.if-byte_length-long.false c.grow_counts-counts.ensures;
      parent = search lengthen_parent;
      date_len = search rules;
    }

pub returns : goal.returns
returns c = search lengthen_done
