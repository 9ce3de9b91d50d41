-- What an operand's numbers say is that operand, both ways.
-- Assumes nothing.
use mathlib.Core.Path.{◌≡◌, refl, sym, ap, ◌∙◌, subst}
use mathlib.Core.Bool.{Bool, true, false}
use mathlib.Core.List.{List, [], ◌∷◌}
use Rattle.std.specs.Prelude.{None, Option, Some}
use Prim.Native.Nat.{ℕ, ◌<◌}
use native.Mathlib.Omega.{arith}
use lib.Dec.{ltb, eqb}
use lib.IntN.{ℤ, pos, negsuc}
use lib.ListN.{length, drop, drop_of_length-le}
use lib.Signed.{mag}
use borrow.Author.Tests.{lt-ltb, ltb-true, eq-eqb, eqb-true}
use Rattle.base.proofs.Bools.{clash}
use Rattle.op.specs.Shapes.{operand_shape}
use Rattle.op.specs.declared.Operand.{Operand}
use Rattle.op.specs.declared.Operand.TheVariants as O
use Rattle.op.specs.declared.Shape.{Shape}
use Rattle.op.specs.declared.Shape.TheVariants as S
use Rattle.code.specs.Decode.{names_in}
use Rattle.code.specs.Encode.{SignsFit}
use Rattle.code.proofs.Ranges.{InRange}
use Rattle.text.specs.Reading.{only_if}
use Rattle.text.specs.Row.{wholes, operands_of}
use Rattle.readback.specs.Operands.{Said, said, and_then, first, plain_in, signed_in, plain_at, signed_at, ends}
use Rattle.readback.specs.Operands.{words, named, operand_for}

pub nothing : {A : Type 0} {a : A} → None ≡ Some a → ⊥
nothing {a} e = clash cc

-- each number is a word
abbrev pub Words : List ℕ → Type 0
Words [] = Unit {0}
Words (n ∷ ns) = (n < 65536) × Words ns

pub words_back : (ns : List ℕ) → Words ns → words (wholes ns) ≡ Some ns
unfolding words and_then
words_back [] h = refl
words_back (n ∷ ns) h = rw (lt-ltb n 65536 h.0, words_back ns h.1)

no_names : (ns : List ℕ) → 0 ≡ length ns → [] ≡ ns
no_names [] e = refl
no_names (n ∷ ns) e = absurd (omega arith)

-- the numbers of an operand in range say it
module _ (names : List ℕ) where
  -- an operand without keyword names
  plain : (o : Operand) → 0 ≡ length names → operand_for (operand_shape o) (operands_of o []) ≡ Some (said o [])
      → operand_for (operand_shape o) (operands_of o names) ≡ Some (said o names)
  plain o e h =
      subst (λ (ns : List ℕ). operand_for (operand_shape o) (operands_of o ns) ≡ Some (said o ns)) (no_names names e) h

  pub said_back : (o : Operand) → InRange o → names_in o ≡ length names → Words names
      → operand_for (operand_shape o) (operands_of o names) ≡ Some (said o names)
  unfolding operand_for plain_at signed_at and_then ends named
  said_back O.None r c w = plain O.None c refl
  said_back (O.U8 a) r c w = plain (O.U8 a) c (rw (lt-ltb a 256 r))
  said_back (O.I8 z) r c w = plain (O.I8 z) c (rw (lt-ltb (mag z) 128 r))
  said_back (O.U16 a) r c w = plain (O.U16 a) c (rw (lt-ltb a 65536 r))
  said_back (O.Offset z) r c w = plain (O.Offset z) c (rw (lt-ltb (mag z) 32768 r))
  said_back (O.U8U8 a b) r c w = plain (O.U8U8 a b) c (rw (lt-ltb a 256 r.0, lt-ltb b 256 r.1))
  said_back (O.U16U8 a b) r c w = plain (O.U16U8 a b) c (rw (lt-ltb a 65536 r.0, lt-ltb b 256 r.1))
  said_back (O.U16U16 a b) r c w = plain (O.U16U16 a b) c (rw (lt-ltb a 65536 r.0, lt-ltb b 65536 r.1))
  said_back (O.U16U8U8 a b d) r c w =
      plain (O.U16U8U8 a b d) c (rw (lt-ltb a 65536 r.0, lt-ltb b 256 r.1, lt-ltb d 256 r.2))
  said_back (O.CallKw p n) r c w =
      rw (lt-ltb p 256 r.0, lt-ltb n 256 r.1, words_back names w, eq-eqb (length names) n (sym c))
  said_back (O.CallAttrKw a p n) r c w = rw (
    lt-ltb a 65536 r.0,
    lt-ltb p 256 r.1,
    lt-ltb n 256 r.2,
    words_back names w,
    eq-eqb (length names) n (sym c),
  )
  said_back (O.U16U16U8 a b d) r c w =
      plain (O.U16U16U8 a b d) c (rw (lt-ltb a 65536 r.0, lt-ltb b 65536 r.1, lt-ltb d 256 r.2))

-- what is said has the shape, fits, counts its names, and its numbers are those that were read
pub record Says (s : Shape) (zs : List ℤ) (x : Said) : Type 0 where
  pub numbers : zs ≡ operands_of x.operand x.names
  pub shape : operand_shape x.operand ≡ s
  pub signs : SignsFit x.operand
  pub count : names_in x.operand ≡ length x.names
  pub range : InRange x.operand
  pub words : Words x.names

pub only : {A : Type 0} (b : Bool) (a x : A) → only_if b a ≡ Some x → (b ≡ true) × (a ≡ x)
only true a x e = (refl, cc)
only false a x e = absurd (nothing e)

-- what `and_then` made something of is there
pub record Got {A B : Type 0} (a : Option A) (f : A → Option B) (x : B) : Type 0 where
  pub value : A
  pub is : a ≡ Some value
  pub rest : f value ≡ Some x

pub got : {A B : Type 0} (a : Option A) (f : A → Option B) (x : B) → and_then a f ≡ Some x → Got a f x
unfolding and_then
got None f x e = absurd (nothing e)
got (Some v) f x e = record { value = v; is = refl; rest = e }

plain_is : (values : ℕ) (z : ℤ) (n : ℕ) → plain_in values z ≡ Some n → (z ≡ pos n) × (n < values)
plain_is values (pos m) n e =
    let o = only (ltb m values) m n e in (ap pos o.1, omega (arith, o.1, ltb-true m values o.0))
plain_is values (negsuc m) n e = absurd (nothing e)

signed_is : (half : ℕ) (z y : ℤ) → signed_in half z ≡ Some y → (z ≡ y) × (mag y < half)
signed_is half z y e =
    let o = only (ltb (mag z) half) z y e in
    (o.1, omega (arith, ap mag o.1, ltb-true (mag z) half o.0))

-- a field's number is in its place
record Field (values i : ℕ) (zs : List ℤ) (f : ℕ → Option Said) (x : Said) : Type 0 where
  number : ℕ
  is : first (drop i zs) ≡ Some (pos number)
  below : number < values
  rest : f number ≡ Some x

field : (values i : ℕ) (zs : List ℤ) (f : ℕ → Option Said) (x : Said) → and_then (plain_at values i zs) f ≡ Some x
    → Field values i zs f x
unfolding plain_at
field values i zs f x e =
    let n = got (plain_at values i zs) f x e in
    let g = got (first (drop i zs)) (plain_in values) n.value n.is in
    let p = plain_is values g.value n.value g.rest in
    record { number = n.value; is = g.is ∙ ap Some p.0; below = p.1; rest = n.rest }

record SignedField (half i : ℕ) (zs : List ℤ) (f : ℤ → Option Said) (x : Said) : Type 0 where
  number : ℤ
  is : first (drop i zs) ≡ Some number
  fits : mag number < half
  rest : f number ≡ Some x

signed_field : (half i : ℕ) (zs : List ℤ) (f : ℤ → Option Said) (x : Said) → and_then (signed_at half i zs) f ≡ Some x
    → SignedField half i zs f x
unfolding signed_at
signed_field half i zs f x e =
    let n = got (signed_at half i zs) f x e in
    let g = got (first (drop i zs)) (signed_in half) n.value n.is in
    let s = signed_is half g.value n.value g.rest in
    record { number = n.value; is = g.is ∙ ap Some s.0; fits = s.1; rest = n.rest }

-- a list by its first numbers
one : (zs : List ℤ) {a : ℤ} {rest : List ℤ} → first zs ≡ Some a → drop 1 zs ≡ rest → zs ≡ a ∷ rest
one [] p e = absurd (nothing p)
one (x ∷ zs) p e = cc

two : (zs : List ℤ) {a b : ℤ} {rest : List ℤ} → first zs ≡ Some a → first (drop 1 zs) ≡ Some b → drop 2 zs ≡ rest
    → zs ≡ a ∷ b ∷ rest
two [] p q e = absurd (nothing p)
two (x ∷ []) p q e = absurd (nothing q)
two (x ∷ y ∷ zs) p q e = cc

three : (zs : List ℤ) {a b c : ℤ} {rest : List ℤ} → first zs ≡ Some a → first (drop 1 zs) ≡ Some b
    → first (drop 2 zs) ≡ Some c → drop 3 zs ≡ rest
    → zs ≡ a ∷ b ∷ c ∷ rest
three [] p q r e = absurd (nothing p)
three (x ∷ []) p q r e = absurd (nothing q)
three (x ∷ y ∷ []) p q r e = absurd (nothing r)
three (x ∷ y ∷ z ∷ zs) p q r e = cc

ends_is : (n : ℕ) (zs : List ℤ) (o : Operand) (x : Said) → ends n zs o ≡ Some x → (drop n zs ≡ []) × (said o [] ≡ x)
unfolding ends
ends_is n zs o x e =
    let p = only (eqb (length zs) n) (said o []) x e in
    (drop_of_length-le zs {i = n} (omega (arith, eqb-true (length zs) n p.0)), p.1)

words_are : (zs : List ℤ) (ns : List ℕ) → words zs ≡ Some ns → (zs ≡ wholes ns) × Words ns
unfolding words
words_are [] ns e = let q : [] ≡ ns = cc in subst (λ (l : List ℕ). ([] ≡ wholes l) × Words l) q (refl, tt)
words_are (z ∷ zs) ns e =
    let g = got (plain_in 65536 z) (λ w. and_then (words zs) (λ ws. Some (w ∷ ws))) ns e in
    let h = got (words zs) (λ ws. Some (g.value ∷ ws)) ns g.rest in
    let q : g.value ∷ h.value ≡ ns = cc in
    let p = plain_is 65536 z g.value g.is in
    let r = words_are zs h.value h.is in
    let l = ap (λ (y : ℤ). y ∷ zs) p.0 ∙ ap (λ (l : List ℤ). pos g.value ∷ l) r.0 in
    subst (λ (l : List ℕ). (z ∷ zs ≡ wholes l) × Words l) q (l, (p.1, r.1))

-- names behind i numbers
record Names (i n : ℕ) (zs : List ℤ) (o : Operand) (x : Said) : Type 0 where
  names : List ℕ
  behind : drop i zs ≡ wholes names
  small : Words names
  count : n ≡ length names
  is : said o names ≡ x

named_is : (i n : ℕ) (zs : List ℤ) (o : Operand) (x : Said) → named i n zs o ≡ Some x → Names i n zs o x
unfolding named
named_is i n zs o x e =
    let g = got (words (drop i zs)) (λ ws. only_if (eqb (length ws) n) (said o ws)) x e in
    let p = only (eqb (length g.value) n) (said o g.value) x g.rest in
    record {
      names = g.value;
      behind = (words_are (drop i zs) g.value g.is).0;
      small = (words_are (drop i zs) g.value g.is).1;
      count = sym (eqb-true (length g.value) n p.0);
      is = p.1;
    }

module _ (zs : List ℤ) (x : Said) where
  says : (s : Shape) (o : Operand) (ns : List ℕ) → said o ns ≡ x → zs ≡ operands_of o ns → operand_shape o ≡ s
      → SignsFit o → names_in o ≡ length ns → InRange o → Words ns
      → Says s zs x
  says s o ns e n h f c r w =
      subst (λ (y : Said). Says s zs y) e
      (record { numbers = n; shape = h; signs = f; count = c; range = r; words = w })

  pub said_only : (s : Shape) → operand_for s zs ≡ Some x → Says s zs x
  unfolding operand_for
  said_only S.None e = let l = ends_is 0 zs O.None x e in says S.None O.None [] l.1 l.0 refl tt refl tt tt
  said_only S.U8 e =
      let a = field 256 0 zs _ x e in
      let l = ends_is 1 zs (O.U8 a.number) x a.rest in
      says S.U8 (O.U8 a.number) [] l.1
      (one zs a.is l.0) refl tt refl
      a.below tt
  said_only S.I8 e =
      let a = signed_field 128 0 zs _ x e in
      let l = ends_is 1 zs (O.I8 a.number) x a.rest in
      says S.I8 (O.I8 a.number) [] l.1 (one zs a.is l.0) refl
      a.fits refl a.fits tt
  said_only S.U16 e =
      let a = field 65536 0 zs _ x e in
      let l = ends_is 1 zs (O.U16 a.number) x a.rest in
      says S.U16 (O.U16 a.number) [] l.1
      (one zs a.is l.0) refl tt refl
      a.below tt
  said_only S.Offset e =
      let a = signed_field 32768 0 zs _ x e in
      let l = ends_is 1 zs (O.Offset a.number) x a.rest in
      says S.Offset (O.Offset a.number) [] l.1 (one zs a.is l.0) refl
      a.fits refl a.fits tt
  said_only S.U8U8 e =
      let a = field 256 0 zs _ x e in
      let b = field 256 1 zs _ x a.rest in
      let l = ends_is 2 zs (O.U8U8 a.number b.number) x b.rest in
      says S.U8U8 (O.U8U8 a.number b.number) [] l.1
      (two zs a.is b.is l.0) refl tt refl
      (a.below, b.below) tt
  said_only S.U16U8 e =
      let a = field 65536 0 zs _ x e in
      let b = field 256 1 zs _ x a.rest in
      let l = ends_is 2 zs (O.U16U8 a.number b.number) x b.rest in
      says S.U16U8 (O.U16U8 a.number b.number) [] l.1
      (two zs a.is b.is l.0) refl tt refl
      (a.below, b.below) tt
  said_only S.U16U16 e =
      let a = field 65536 0 zs _ x e in
      let b = field 65536 1 zs _ x a.rest in
      let l = ends_is 2 zs (O.U16U16 a.number b.number) x b.rest in
      says S.U16U16 (O.U16U16 a.number b.number) [] l.1
      (two zs a.is b.is l.0) refl tt refl
      (a.below, b.below) tt
  said_only S.U16U8U8 e =
      let a = field 65536 0 zs _ x e in
      let b = field 256 1 zs _ x a.rest in
      let c = field 256 2 zs _ x b.rest in
      let l = ends_is 3 zs (O.U16U8U8 a.number b.number c.number) x c.rest in
      says S.U16U8U8 (O.U16U8U8 a.number b.number c.number) [] l.1
      (three zs a.is b.is c.is l.0) refl tt refl
      (a.below, b.below, c.below) tt
  said_only S.CallKw e =
      let p = field 256 0 zs _ x e in
      let n = field 256 1 zs _ x p.rest in
      let l = named_is 2 n.number zs (O.CallKw p.number n.number) x n.rest in
      says S.CallKw (O.CallKw p.number n.number) l.names l.is
      (two zs p.is n.is l.behind) refl tt l.count
      (p.below, n.below) l.small
  said_only S.CallAttrKw e =
      let a = field 65536 0 zs _ x e in
      let p = field 256 1 zs _ x a.rest in
      let n = field 256 2 zs _ x p.rest in
      let l = named_is 3 n.number zs (O.CallAttrKw a.number p.number n.number) x n.rest in
      says S.CallAttrKw (O.CallAttrKw a.number p.number n.number) l.names l.is
      (three zs a.is p.is n.is l.behind) refl tt l.count
      (a.below, p.below, n.below) l.small
  said_only S.U16U16U8 e =
      let a = field 65536 0 zs _ x e in
      let b = field 65536 1 zs _ x a.rest in
      let c = field 256 2 zs _ x b.rest in
      let l = ends_is 3 zs (O.U16U16U8 a.number b.number c.number) x c.rest in
      says S.U16U16U8 (O.U16U16U8 a.number b.number c.number) [] l.1
      (three zs a.is b.is c.is l.0) refl tt refl
      (a.below, b.below, c.below) tt
