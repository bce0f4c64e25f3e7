-- Rows that are offered to nodes.
--
--   offer u v                        the row v, offered to node u
--   IsListed offers u v              that offer is in the list
--   IsOffer n o                      o offers a row of 17 words to a node below n
--   EdgeOffers program e v offers    the offers span what the moves along the edge e make of the row v
--   AlongOffers program ks v offers  so they do for the edges with these numbers
--   RowOffers program u v offers     the offers span what the moves from node u make of the row v
use Rattle.std.specs.Prelude.{ℕ, ◌<◌, List, All, Contains}
use Rattle.word_rows.specs.Rows.{IsRow}
use Rattle.row_modules.specs.Modules.{SameModule}
use Rattle.affine_prog.specs.declared.Program.{Program}
use Rattle.affine_prog.specs.declared.Edge.{Edge}
use Rattle.row_images.specs.States.{Makes}
use Rattle.reach_modules.specs.declared.Offer.{Offer}
use Rattle.reach_modules.specs.Moves.{EdgeMap, Moves}
use Rattle.reach_modules.specs.Tables.{AlongSome}

abbrev pub offer : ℕ → List ℕ → Offer
offer u v = record { node = u; row = v }

abbrev pub IsListed : List Offer → ℕ → List ℕ → Type 0
IsListed offers u v = Contains offers (offer u v)

pub record IsOffer (n : ℕ) (o : Offer) : Type 0 where
  pub below : o.node < n
  pub row : IsRow 17 o.row

pub record EdgeOffers (program : Program) (e : Edge) (v : List ℕ) (offers : List Offer) : Type 0 where
  pub are : All (IsOffer program.nodes) offers
  pub spans : (w : ℕ) → SameModule 17 (IsListed offers w) (Makes (EdgeMap program e w) v)

pub record AlongOffers (program : Program) (ks : List ℕ) (v : List ℕ) (offers : List Offer) : Type 0 where
  pub are : All (IsOffer program.nodes) offers
  pub spans : (w : ℕ) → SameModule 17 (IsListed offers w) (Makes (AlongSome program ks w) v)

pub record RowOffers (program : Program) (u : ℕ) (v : List ℕ) (offers : List Offer) : Type 0 where
  pub are : All (IsOffer program.nodes) offers
  pub spans : (w : ℕ) → SameModule 17 (IsListed offers w) (Makes (Moves program u w) v)
