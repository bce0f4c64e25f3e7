use Rattle.entry_tables.proofs.Finding.{item_read}
use Rattle.abi_verdicts.proofs.collect.end_by_number.Goals as goal

pub end_of-requires : goal.end_of-requires
end_of-requires c =
    c.requires.lined c.args.i _ (item_read _ _ c.args.i c.index-as_slice-i.result c.as_slice.ensures c.requires.within c.index-as_slice-i.is)
