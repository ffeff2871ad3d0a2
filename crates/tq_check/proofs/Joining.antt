-- Texts that are built piece by piece.
use Rattle.std.proofs.Common.{◌≡◌, ◌∙◌, ℕ, List, ◌++◌, ap, append_assoc}

-- a text with some pieces, and then with one more
pub joined : (text pieces piece more whole : List ℕ) → more ≡ text ++ pieces → whole ≡ more ++ piece → whole ≡ text ++ (pieces ++ piece)
joined text pieces piece more whole is then = then ∙ ap (λ l. l ++ piece) is ∙ append_assoc text pieces piece
