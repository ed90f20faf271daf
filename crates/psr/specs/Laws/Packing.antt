-- Packing and unpacking undo each other: a record whose GE fits comes back, and of a word the bits that a record holds.
use Rattle.std.specs.Prelude.{◌≡◌, refl, Bool, ℕ, zero, suc, ◌+◌, ◌*◌, ◌/◌, ◌%◌, ◌^◌, ◌≤◌, ◌<◌, eqb}
use Rattle.std.proofs.Common.{sym, ap, ◌∙◌, arith, mod-lt, div-add-mod', add-one, lit<, pow_pos, shr-shr}
use Rattle.std.specs.Int.Bits.{bit_and, and_zero_r}
use Rattle.std.proofs.lemmas.Nat.{and_block, and_mask}
use Rattle.std.proofs.Math.Pow.{split}
use Rattle.bits.specs.Cases.{when◌then◌else◌}
use Rattle.bits.specs.Fields.{◌⟨◌⟩, ◌⟨◌‥◌⟩, bit_of}
use Rattle.bits.specs.Laws.Bools.{bit_le, bit_eqb}
use Rattle.psr.specs.declared.Mode.{Mode}
use Rattle.psr.specs.declared.Mode.TheVariants.{User, Fiq, Irq, Supervisor, Abort, Undefined, System}
use Rattle.psr.specs.declared.Status.{Status}
use Rattle.psr.specs.Status.{mode_number, mode_of, word_of, status_of}

pub mode_lt : (m : Mode) → mode_number m < 32
mode_lt User = lit< tt
mode_lt Fiq = lit< tt
mode_lt Irq = lit< tt
mode_lt Supervisor = lit< tt
mode_lt Abort = lit< tt
mode_lt Undefined = lit< tt
mode_lt System = lit< tt

pub mode_back : (m : Mode) → mode_of (mode_number m) ≡ m
unfolding mode_of when◌then◌else◌
mode_back User = refl
mode_back Fiq = refl
mode_back Irq = refl
mode_back Supervisor = refl
mode_back Abort = refl
mode_back Undefined = refl
mode_back System = refl

pub unpack_pack : (s : Status) → s.ge ≤ 15 → status_of (word_of s) ≡ s
unfolding word_of status_of
unpack_pack s hge =
    let w : ℕ = word_of s in
    let bn = bit_le s.n in let bz = bit_le s.z in let bc = bit_le s.c in let bv = bit_le s.v in let bq = bit_le s.q in
    let be = bit_le s.e in let ba = bit_le s.a in let bi = bit_le s.i in let bf = bit_le s.f in let bt = bit_le s.t in
    let bm = mode_lt s.mode in
    let one : (k : ℕ) (b : Bool) → w / 2 ^ k % 2 ≡ bit_of b → eqb (w / 2 ^ k % 2) 1 ≡ b = λ k b p. ap (λ (x : ℕ). eqb x 1) p ∙ bit_eqb b in
    let pn = one 31 s.n (omega arith) in
    let pz = one 30 s.z (omega arith) in
    let pc = one 29 s.c (omega arith) in
    let pv = one 28 s.v (omega arith) in
    let pq = one 27 s.q (omega arith) in
    let pge : w / 2 ^ 16 % 16 ≡ s.ge = omega arith in
    let pe = one 9 s.e (omega arith) in
    let pa = one 8 s.a (omega arith) in
    let pi = one 7 s.i (omega arith) in
    let pf = one 6 s.f (omega arith) in
    let pt = one 5 s.t (omega arith) in
    let pw : w % 32 ≡ mode_number s.mode = omega arith in
    let pm = ap mode_of pw ∙ mode_back s.mode in
    λ j. record { n = pn j; z = pz j; c = pc j; v = pv j; q = pq j; ge = pge j; e = pe j; a = pa j; i = pi j; f = pf j; t = pt j; mode = pm j }

-- a bit read and put back
bit_again : (w k : ℕ) → bit_of (eqb (w / 2 ^ k % 2) 1) ≡ w / 2 ^ k % 2
bit_again w k = two (w / 2 ^ k % 2) (omega arith)
  where
    two : (x : ℕ) → x < 2 → bit_of (eqb x 1) ≡ x
    two zero h = refl
    two (suc zero) h = refl
    two (suc (suc x)) h = absurd (omega arith)

-- five bits from k on, side by side
five : (y y₁ y₂ y₃ y₄ y₅ b₀ b₁ b₂ b₃ b₄ : ℕ)
    → y₁ * 2 + b₀ ≡ y → y₂ * 2 + b₁ ≡ y₁ → y₃ * 2 + b₂ ≡ y₂ → y₄ * 2 + b₃ ≡ y₃ → y₅ * 2 + b₄ ≡ y₄
    → b₀ ≤ 1 → b₁ ≤ 1 → b₂ ≤ 1 → b₃ ≤ 1 → b₄ ≤ 1 → b₄ * 16 + b₃ * 8 + b₂ * 4 + b₁ * 2 + b₀ ≡ y % 32
five y y₁ y₂ y₃ y₄ y₅ b₀ b₁ b₂ b₃ b₄ p₀ p₁ p₂ p₃ p₄ h₀ h₁ h₂ h₃ h₄ = omega arith

half : (w k : ℕ) → w / 2 ^ suc k * 2 + w / 2 ^ k % 2 ≡ w / 2 ^ k
half w k = rw (← add-one k, ← shr-shr w k 1) (div-add-mod' (w / 2 ^ k) 2)

five_at : (w k : ℕ) → w / 2 ^ suc (suc (suc (suc k))) % 2 * 16 + w / 2 ^ suc (suc (suc k)) % 2 * 8 + w / 2 ^ suc (suc k) % 2 * 4 + w / 2 ^ suc k % 2 * 2 + w / 2 ^ k % 2 ≡ w / 2 ^ k % 32
five_at w k =
    five (w / 2 ^ k) (w / 2 ^ suc k) (w / 2 ^ suc (suc k)) (w / 2 ^ suc (suc (suc k))) (w / 2 ^ suc (suc (suc (suc k)))) (w / 2 ^ suc (suc (suc (suc (suc k)))))
    (w / 2 ^ k % 2) (w / 2 ^ suc k % 2) (w / 2 ^ suc (suc k) % 2) (w / 2 ^ suc (suc (suc k)) % 2) (w / 2 ^ suc (suc (suc (suc k))) % 2)
    (half w k) (half w (suc k)) (half w (suc (suc k))) (half w (suc (suc (suc k)))) (half w (suc (suc (suc (suc k)))))
    (omega arith) (omega arith) (omega arith) (omega arith) (omega arith)

-- the mask above bit k, and below it
and_at : (x k b s : ℕ) → s < 2 ^ k → bit_and x (b * 2 ^ k + s) ≡ bit_and (x / 2 ^ k) b * 2 ^ k + bit_and (x % 2 ^ k) s
and_at x k b s h = ap (λ (y : ℕ). bit_and y (b * 2 ^ k + s)) (sym (split x k)) ∙ and_block k (x / 2 ^ k) b (x % 2 ^ k) s (mod-lt x (pow_pos k)) h

-- the flags, GE, and E A I F T of a word, each in its place
kept_of : ℕ → ℕ
kept_of w = w / 2 ^ 27 % 32 * 2 ^ 27 + w / 2 ^ 16 % 16 * 2 ^ 16 + w / 2 ^ 5 % 32 * 2 ^ 5

mask_kept : (w : ℕ) → w < 2 ^ 32 → bit_and w 0xF80F_03E0 ≡ kept_of w
unfolding kept_of
mask_kept w h =
    and_at w 27 31 0xF_03E0 (lit< tt)
    ∙ rw (and_mask (w / 2 ^ 27) 5, and_at (w % 2 ^ 27) 16 15 0x3E0 (lit< tt), and_mask (w % 2 ^ 27 / 2 ^ 16) 4, and_at (w % 2 ^ 27 % 2 ^ 16) 5 31 0 (lit< tt), and_mask (w % 2 ^ 27 % 2 ^ 16 / 2 ^ 5) 5, and_zero_r (w % 2 ^ 27 % 2 ^ 16 % 2 ^ 5), ge_part, low_part)
    (omega arith)
  where
    ge_part : w % 2 ^ 27 / 2 ^ 16 % 2 ^ 4 ≡ w / 2 ^ 16 % 2 ^ 4
    ge_part = omega arith

    low_part : w % 2 ^ 27 % 2 ^ 16 / 2 ^ 5 % 2 ^ 5 ≡ w / 2 ^ 5 % 2 ^ 5
    low_part = omega arith

-- pack after unpack: the bits F80F03E0, and the number of the mode that the low five bits name
pub pack_unpack : (w : ℕ) → w < 2 ^ 32 → word_of (status_of w) ≡ bit_and w 0xF80F_03E0 + mode_number (mode_of (w ⟨ 4 ‥ 0 ⟩))
unfolding word_of status_of kept_of
pack_unpack w h =
    rw (mask_kept w h)
    (simp (bit_again w 31, bit_again w 30, bit_again w 29, bit_again w 28, bit_again w 27, bit_again w 9, bit_again w 8, bit_again w 7, bit_again w 6, bit_again w 5)
    (adds (w / 2 ^ 31 % 2) (w / 2 ^ 30 % 2) (w / 2 ^ 29 % 2) (w / 2 ^ 28 % 2) (w / 2 ^ 27 % 2) (w / 2 ^ 16 % 16) (w / 2 ^ 9 % 2) (w / 2 ^ 8 % 2) (w / 2 ^ 7 % 2) (w / 2 ^ 6 % 2) (w / 2 ^ 5 % 2) (mode_number (mode_of (w ⟨ 4 ‥ 0 ⟩))) (w / 2 ^ 27 % 32) (w / 2 ^ 5 % 32) (five_at w 27) (five_at w 5)))
  where
    adds : (n z c v q g e a i f t m hi lo : ℕ) → n * 16 + z * 8 + c * 4 + v * 2 + q ≡ hi → e * 16 + a * 8 + i * 4 + f * 2 + t ≡ lo
        → n * 2 ^ 31 + z * 2 ^ 30 + c * 2 ^ 29 + v * 2 ^ 28 + q * 2 ^ 27 + g * 2 ^ 16 + e * 2 ^ 9 + a * 2 ^ 8 + i * 2 ^ 7 + f * 2 ^ 6 + t * 2 ^ 5 + m ≡ hi * 2 ^ 27 + g * 2 ^ 16 + lo * 2 ^ 5 + m
    adds n z c v q g e a i f t m hi lo p r = omega arith

-- where the low five bits are a mode's number: exactly the bits F80F03FF
pub pack_unpack_known : (w : ℕ) (m : Mode) → w < 2 ^ 32 → w ⟨ 4 ‥ 0 ⟩ ≡ mode_number m → word_of (status_of w) ≡ bit_and w 0xF80F_03FF
pack_unpack_known w m h e =
    pack_unpack w h
    ∙ ap (λ (x : ℕ). bit_and w 0xF80F_03E0 + x) (ap (λ (y : ℕ). mode_number (mode_of y)) e ∙ ap mode_number (mode_back m) ∙ sym e)
    ∙ sym (low_bits w)
  where
    low_bits : (x : ℕ) → bit_and x 0xF80F_03FF ≡ bit_and x 0xF80F_03E0 + x % 32
    low_bits x =
        rw (and_at x 5 0x7C0_781F 31 (lit< tt), and_at x 5 0x7C0_781F 0 (lit< tt), and_mask (x % 2 ^ 5) 5, and_zero_r (x % 2 ^ 5)) (omega arith)
