use Rattle.merged_heads.proofs.Lemmas.{formed, exits_alike}
use Rattle.analyser_core.proofs.upgrades.certs_at.Goals as goal

pub exits-requires : goal.exits-requires
exits-requires g c =
    let b = c.requires.blocks in
    rw c.small.ensures (formed c.args.program.now c.args.blocks.now.merging b.heads c.args.blocks.now.small c.requires.formed b.small)

pub certify-requires-clause-exits : goal.certify-requires-clause-exits
certify-requires-clause-exits g c =
    let b = c.requires.blocks in
    rw c.bases.ensures
    (exits_alike c.args.program.now c.args.blocks.now.merging b.heads c.args.blocks.now.small c.requires.formed b.small c.in_ok-exits.exits
    (rw c.small.ensures at c.in_ok-exits.ensures.exact))

pub words_of-requires : goal.words_of-requires
words_of-requires g c = rw c.as_slice.ensures (λ k d below. (c.in_ok-certs.ensures.each k d below).among)

pub returns : goal.returns
returns g c =
    record {
      lines = c.in_ok-certs.certs;
      certified = c.in_ok-certs.ensures;
      words = rw c.as_slice.ensures at c.in_ok-words.ensures;
    }
