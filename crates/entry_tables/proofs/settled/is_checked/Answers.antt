use Rattle.entry_tables.proofs.settled.is_checked.Goals as goal

pub returns : goal.returns
returns c =
    let order = c.all_ascend.ensures c.if-not-all_ascend.false in
    λ yes. record {
      ascend = order.0;
      ascend_told = order.1;
      points = c.in_ok-closed.ensures yes;
      entries = c.have_entries.ensures c.if-not-have_entries.false;
    }
