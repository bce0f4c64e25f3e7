-- Linear maps take modules to modules, and the module of a set to the module of its image.
use Rattle.std.proofs.Common.{◌≡◌, ℕ, ◌+◌, ◌*◌, ◌-◌, ◌^◌, List, [], ◌∷◌, length, replicate, refl, ap, ap₂, sym, ◌∙◌, arith}
use Rattle.std.proofs.Math.Nat.{mul-mod_right}
use Rattle.word_rows.specs.Words.{word}
use Rattle.word_rows.specs.Rows.{words_of, IsRow, plus}
use Rattle.word_rows.proofs.Laws.{IsRow-zeros, IsRow-plus}
use Rattle.row_modules.specs.Modules.{AreRows, IsCombination, IsModule, IsWithin, SameModule}
use Rattle.row_modules.specs.Maps.{IsLinear, IsBilinear, Image, Products}
use Rattle.row_modules.proofs.Lists.{spans_more}
use Rattle.row_modules.proofs.Closure.{plus_zeros, combinations, generator, module_least}

-- a row less itself
minus_itself : (v : List ℕ) → words_of (plus (2 ^ 64 - 1) v v) ≡ replicate (length v) 0
minus_itself [] = refl
minus_itself (x ∷ xs) =
    let e : x + (2 ^ 64 - 1) * x ≡ 2 ^ 64 * x = omega arith in
    let z : word (x + (2 ^ 64 - 1) * x) ≡ 0 = ap word e ∙ mul-mod_right (2 ^ 64) x in
    let h = minus_itself xs in cc

module _ (n m : ℕ) (f : List ℕ → List ℕ) (l : IsLinear n m f) where
  linear_zero : f (replicate n 0) ≡ replicate m 0
  linear_zero =
      let z = IsRow-zeros n in
      let e = l.sum (2 ^ 64 - 1) (replicate n 0) (replicate n 0) z z in
      sym (ap f (plus_zeros n (2 ^ 64 - 1) (replicate n 0) z)) ∙ e ∙ minus_itself (f (replicate n 0)) ∙ ap (λ k. replicate k 0) (l.rows (replicate n 0) z).width

  pub image_is_module : (S : List ℕ → Type 0) → IsModule n S → IsModule m (Image f S)
  image_is_module S s = record {
    rows = λ w i. let e = i.is in rw e (l.rows i.of (s.rows i.of i.member));
    zero_row = record { of = replicate n 0; member = s.zero_row; is = sym linear_zero };
    sum = λ c v w i j. record {
      of = words_of (plus c i.of j.of);
      member = s.sum c i.of j.of i.member j.member;
      is = ap₂ (λ x y. words_of (plus c x y)) i.is j.is ∙ sym (l.sum c i.of j.of (s.rows i.of i.member) (s.rows j.of j.member));
    };
  }

  -- the rows that f takes into a module are one
  preimage_is_module : (S : List ℕ → Type 0) → IsModule m S → IsModule n (λ v. IsRow n v × S (f v))
  preimage_is_module S s = record {
    rows = λ v p. p.0;
    zero_row = (IsRow-zeros n, rw linear_zero s.zero_row);
    sum = λ c v w p q. (IsRow-plus n c v w p.0 q.0, let e = l.sum c v w p.0 q.0 in rw e (s.sum c (f v) (f w) p.1 q.1));
  }

  -- where f takes the generators into a module, it takes their module into it
  pub mapped_into : (P S : List ℕ → Type 0) → AreRows n P → IsModule m S → ((v : List ℕ) → P v → S (f v)) → (v : List ℕ) → IsCombination n P v → S (f v)
  mapped_into P S rows s h v c =
      (module_least n (λ x. IsRow n x × S (f x)) (preimage_is_module S s) P (λ x p. (rows x p, h x p)) v c).1

  images_are_rows : (P : List ℕ → Type 0) → AreRows n P → AreRows m (Image f P)
  images_are_rows P rows w i = let e = i.is in rw e (l.rows i.of (rows i.of i.member))

  pub image_in : (P : List ℕ → Type 0) → AreRows n P → (w : List ℕ) → Image f (IsCombination n P) w → IsCombination m (Image f P) w
  image_in P rows w i =
      let r = images_are_rows P rows in
      let h = mapped_into P (IsCombination m (Image f P)) rows (combinations m (Image f P) r) (λ v p. generator m (Image f P) r (f v) (record { of = v; member = p; is = refl })) i.of i.member in
      let e = i.is in rw e h

  pub image_out : (P : List ℕ → Type 0) → AreRows n P → (w : List ℕ) → IsCombination m (Image f P) w → Image f (IsCombination n P) w
  image_out P rows w c =
      module_least m (Image f (IsCombination n P)) (image_is_module (IsCombination n P) (combinations n P rows)) (Image f P) (λ x i. record { of = i.of; member = generator n P rows i.of i.member; is = i.is }) w c

module _ (n m k : ℕ) (f : List ℕ → List ℕ → List ℕ) (b : IsBilinear n m k f) (P Q : List ℕ → Type 0) (left : AreRows n P) (right : AreRows m Q) where
  products_are_rows : AreRows k (Products f P Q)
  products_are_rows u p =
      let e = p.is in rw e ((b.second p.left (left p.left p.member_left)).rows p.right (right p.right p.member_right))

  product_in : (v w : List ℕ) → IsCombination n P v → IsCombination m Q w → IsCombination k (Products f P Q) (f v w)
  product_in v w c d =
      let r = products_are_rows in
      let S = IsCombination k (Products f P Q) in
      let s = combinations k (Products f P Q) r in
      let one = λ (x y : List ℕ) (p : P x) (q : Q y). generator k (Products f P Q) r (f x y) (record { left = x; right = y; member_left = p; member_right = q; is = refl }) in
      let row_w = (combinations m Q right).rows w d in
      mapped_into n k (λ x. f x w) (b.first w row_w) P S left s
      (λ x p. mapped_into m k (f x) (b.second x (left x p)) Q S right s (λ y q. one x y p q) w d) v c

  pub products_span : SameModule k (Products f P Q) (Products f (IsCombination n P) (IsCombination m Q))
  products_span = record {
    there = λ u c. module_least k (IsCombination k (Products f (IsCombination n P) (IsCombination m Q))) (combinations k (Products f (IsCombination n P) (IsCombination m Q)) wide) (Products f P Q)
        (λ x p. generator k (Products f (IsCombination n P) (IsCombination m Q)) wide x
        (record { left = p.left; right = p.right; member_left = generator n P left p.left p.member_left; member_right = generator m Q right p.right p.member_right; is = p.is })) u c;
    back = λ u c. module_least k (IsCombination k (Products f P Q)) (combinations k (Products f P Q) products_are_rows) (Products f (IsCombination n P) (IsCombination m Q))
        (λ x p. let e = p.is in rw e (product_in p.left p.right p.member_left p.member_right)) u c;
  } where
    wide : AreRows k (Products f (IsCombination n P) (IsCombination m Q))
    wide u p =
        let e = p.is in
        rw e ((b.second p.left ((combinations n P left).rows p.left p.member_left)).rows p.right ((combinations m Q right).rows p.right p.member_right))

pub image_within : (n m : ℕ) (f : List ℕ → List ℕ) → IsLinear n m f → (P Q : List ℕ → Type 0) → AreRows n P → AreRows n Q → IsWithin n P Q → IsWithin m (Image f P) (Image f Q)
image_within n m f l P Q p q h w c =
    let i = image_out n m f l P p w c in
    image_in n m f l Q q w (record { of = i.of; member = h i.of i.member; is = i.is })

pub products_within : (n m k : ℕ) (f : List ℕ → List ℕ → List ℕ) → IsBilinear n m k f → (P Q R S : List ℕ → Type 0) → AreRows n P → AreRows m Q → AreRows n R → AreRows m S → IsWithin n P R → IsWithin m Q S → IsWithin k (Products f P Q) (Products f R S)
products_within n m k f b P Q R S p q r s left right u c =
    (products_span n m k f b R S r s).back u
    (spans_more k (Products f (IsCombination n P) (IsCombination m Q)) (Products f (IsCombination n R) (IsCombination m S))
    (λ x i. record { left = i.left; right = i.right; member_left = left i.left i.member_left; member_right = right i.right i.member_right; is = i.is })
    u ((products_span n m k f b P Q p q).there u c))
