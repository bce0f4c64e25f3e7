use Rattle.entry_tables.proofs.Finding.{item_read}
use Rattle.entry_tables.proofs.settled.is_closed_at.Goals as goal

pub is_closed_point-requires : goal.is_closed_point-requires
is_closed_point-requires c =
    c.requires.lined c.args.i _ (item_read _ _ c.args.i c.index-as_slice-i.result c.as_slice.ensures c.requires.within c.index-as_slice-i.is)
