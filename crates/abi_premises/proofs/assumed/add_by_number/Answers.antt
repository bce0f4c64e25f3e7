use Rattle.entry_tables.proofs.Finding.{item_read}
use Rattle.abi_premises.proofs.assumed.add_by_number.Goals as goal

pub add_at-requires : goal.add_at-requires
add_at-requires c =
    c.requires.lined c.args.i _ (item_read _ _ c.args.i c.index-as_slice-i.result c.as_slice.ensures c.requires.within c.index-as_slice-i.is)
