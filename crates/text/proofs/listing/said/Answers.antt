-- `text::listing::said` meets its contract: its tests are the definition's.
-- Assumes nothing.
use Rattle.std.proofs.Common.{◌≡◌, ℕ, zero, suc, ◌+◌, ◌<◌, Bool, true, false, refl, sym, ap, ◌∙◌, add-one, arith}
use borrow.Author.Tests.{le-leb, lt-leb}
use Rattle.text.specs.Inner.{said_by, cut_off}
use Rattle.text.specs.Fitting.{made, no_line, said_of}
use Rattle.text.specs.declared.lister.Progress.{Progress}
use Rattle.text.proofs.Progressing.{cut_is}
use Rattle.text.proofs.listing.said.Goals as goal
use Rattle.text.proofs.listing.said.Goals.{else-eq-via-then-eq+else-p-eq0, else-eq-via-else-eq}

said_part : (p : Progress) → (cut_off p.going ≡ true → 0 < p.to) → made p.to (p.at + 1) ≡ said_by p
unfolding said_by
said_part p h = by p.to (cut_off p.going) h
  where
    by : (to : ℕ) (f : Bool) → (f ≡ true → 0 < to) → made to (p.at + 1) ≡ said_of to (no_line (suc p.at) f)
    by zero true h = let z : ⊥ = omega (arith, h refl) in absurd z
    by zero false h = ap (made 0) (add-one p.at)
    by (suc n) f h = rw (le-leb 1 (suc n) (omega arith)) (ap (made (suc n)) (add-one p.at))

pub returns-then-p-eq0 : goal.returns-then-p-eq0
unfolding said_by
returns-then-p-eq0 c =
    let cut = sym (cut_is c.args.p.going) ∙ sym c.eq.ensures ∙ c.if-eq.true in
    rw (lt-leb 1 c.args.p.to (omega (arith, c.if-p-eq0.true)), cut)

pub returns : goal.returns
returns c =
    let p = c.args.p in
    said_part p (λ h. elim c.else-eq.branch [ else-eq-via-then-eq+else-p-eq0 w ↦ omega (arith, w.if-p-eq0.false) | else-eq-via-else-eq w ↦ (let not = cut_is p.going in cc) ])
