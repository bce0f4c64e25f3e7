-- What calls offer to a node.
--
--   Called registers slots to callees images u m
--                            u is the node `to`, and m is the product of the extension of a callee's map and an image
--   Returned before extended to callers u m
--                            u is the node `to`, and m is the product of an extension and an image of a caller's map
use Rattle.std.specs.Prelude.{◌≡◌, ℕ, List, Contains}
use Rattle.map_modules.specs.Matrices.{product, linear_extension}
use Rattle.affine_prog.specs.declared.Assign.{Assign}
use Rattle.row_images.specs.Images.{images_of}

pub record Called (registers slots to : ℕ) (callees images : List (List ℕ)) (u : ℕ) (m : List ℕ) : Type 0 where
  pub there : u ≡ to
  pub callee : List ℕ
  pub image : List ℕ
  pub of_callees : Contains callees callee
  pub of_images : Contains images image
  pub is : m ≡ product (linear_extension registers slots callee) image

pub record Returned (before : List Assign) (extended : List ℕ) (to : ℕ) (callers : List (List ℕ)) (u : ℕ) (m : List ℕ) : Type 0 where
  pub there : u ≡ to
  pub caller : List ℕ
  pub image : List ℕ
  pub of_callers : Contains callers caller
  pub of_images : Contains (images_of 17 before caller) image
  pub is : m ≡ product extended image
