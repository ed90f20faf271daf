-- What proofs say of reading: it may stay, pass one byte, and go on from where it came.
use Rattle.std.proofs.Common.{◌≡◌, ◌∙◌, sym, ap, refl, ℕ, ◌≤◌, List, [], ◌∷◌, ◌++◌, length, append_assoc, arith, length-append, take, drop}
use Rattle.std.proofs.lemmas.List.{take-append-drop}
use Rattle.listing.specs.Reading.{LeadsTo}

pub leads_nowhere : (a : List ℕ) → LeadsTo a a
leads_nowhere a = record { passed = []; is = refl }

pub leads_past : {a : List ℕ} (x : ℕ) (b : List ℕ) → a ≡ x ∷ b → LeadsTo a b
leads_past x b e = record { passed = x ∷ []; is = e }

pub leads_on : {a b c : List ℕ} → LeadsTo a b → LeadsTo b c → LeadsTo a c
leads_on p q = record { passed = p.passed ++ q.passed; is = p.is ∙ ap (λ r. p.passed ++ r) q.is ∙ sym (append_assoc p.passed q.passed _) }

pub leads_shorter : {a b : List ℕ} → LeadsTo a b → length b ≤ length a
leads_shorter {a} {b} p = omega (arith, ap length p.is, length-append p.passed b)

pub leads_to_drop : (k : ℕ) (a : List ℕ) → LeadsTo a (drop k a)
leads_to_drop k a = record { passed = take k a; is = sym (take-append-drop k a) }

pub ruleset leading = (leads_nowhere, leads_past, leads_on, leads_shorter, leads_to_drop)
