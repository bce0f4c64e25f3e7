use Rattle.entry_tables.proofs.Finding.{item_read}
use Rattle.abi_routines.proofs.search.flow_by_number.Goals as goal

pub flow_on-requires : goal.flow_on-requires
flow_on-requires c =
    c.requires.lined c.args.i _ (item_read _ _ c.args.i c.index-as_slice-i.result c.as_slice.ensures c.requires.within c.index-as_slice-i.is)
