-- What a part that was made says of the listing.
-- Assumes nothing.
use Rattle.std.proofs.Common.{◌≡◌, List, ℕ, ◌++◌, take, sym, ap, ◌∙◌}
use Rattle.text.specs.Fitting.{made, text_of, listed_of, listed_in}
use Rattle.text.specs.Lines.{plain_lines}
use Rattle.text.specs.declared.Part.{Part}
use Rattle.text.proofs.Joining.{joins, plain_left, plain_all}
use Rattle.listing.specs.Printing.{Turns}

pub turned : (code : List ℕ) (from : ℕ) (old out : List ℕ) (p : Part)
    → listed_of (plain_lines code from) from old ≡ made p.length p.next
    → out ≡ listed_in (plain_lines code from) from old → Turns code from p out
turned code from old out p e c =
    record {
      part = plain_left code old from p.length p.next e
          ∙ ap (λ (l : List ℕ). take p.length l ++ text_of (plain_lines code p.next)) (sym c);
      fewer = joins.fewer code old from p.length p.next e;
      last = plain_all code old from p.length p.next e;
    }
