-- Pieces of a line, one after the other.
use Rattle.std.proofs.Common.{◌≡◌, ◌++◌, List, ℕ, sym, ◌∙◌, append_assoc}

pub regrouped : (l m n o p q r s : List ℕ) → l ++ (m ++ (n ++ (o ++ (p ++ (q ++ (r ++ s)))))) ≡ l ++ m ++ n ++ o ++ p ++ q ++ r ++ s
regrouped l m n o p q r s =
    sym (append_assoc l m (n ++ (o ++ (p ++ (q ++ (r ++ s))))))
    ∙ sym (append_assoc (l ++ m) n (o ++ (p ++ (q ++ (r ++ s)))))
    ∙ sym (append_assoc (l ++ m ++ n) o (p ++ (q ++ (r ++ s))))
    ∙ sym (append_assoc (l ++ m ++ n ++ o) p (q ++ (r ++ s)))
    ∙ sym (append_assoc (l ++ m ++ n ++ o ++ p) q (r ++ s))
    ∙ sym (append_assoc (l ++ m ++ n ++ o ++ p ++ q) r s)
