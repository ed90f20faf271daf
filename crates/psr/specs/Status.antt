-- The program status registers (DDI 0100I, A2.5): the packed word, the modes, the conditions and MSR's masked write.
use Rattle.std.specs.Prelude.{◌≡◌, Bool, true, false, not, ◌&&◌, ◌||◌, List, [], ◌∷◌, ℕ, ◌+◌, ◌*◌, ◌^◌, get_or, ◌==◌, Result, Ok, Err}
use Rattle.std.specs.Result.{result_unwrap_or}
use Rattle.std.specs.Bool.{beq}
use Rattle.bits.specs.Cases.{when◌then◌else◌, ◌<?◌}
use Rattle.bits.specs.Fields.{◌⟨◌⟩, ◌⟨◌‥◌⟩, bit_of}
use Rattle.psr.specs.declared.Mode.{Mode}
use Rattle.psr.specs.declared.Mode.TheVariants.{User, Fiq, Irq, Supervisor, Abort, Undefined, System}
use Rattle.psr.specs.declared.Status.{Status}
use Rattle.psr.specs.declared.GeTooLarge.{GeTooLarge}

-- A2.2, Table A2-1, with A2.5.7: the mode bits
abbrev pub mode_number : Mode → ℕ
mode_number User = 0b10000
mode_number Fiq = 0b10001
mode_number Irq = 0b10010
mode_number Supervisor = 0b10011
mode_number Abort = 0b10111
mode_number Undefined = 0b11011
mode_number System = 0b11111

-- the mode of a number; a number that is no mode's reads as User (document 01, section 5)
unfoldable pub mode_of : ℕ → Mode
mode_of m =
    when m == 0b10001 then Fiq
    else when m == 0b10010 then Irq
    else when m == 0b10011 then Supervisor
    else when m == 0b10111 then Abort
    else when m == 0b11011 then Undefined
    else when m == 0b11111 then System
    else User

-- A2.5: the word of a record
unfoldable pub word_of : Status → ℕ
word_of s =
    bit_of s.n * 2 ^ 31
    + bit_of s.z * 2 ^ 30
    + bit_of s.c * 2 ^ 29
    + bit_of s.v * 2 ^ 28
    + bit_of s.q * 2 ^ 27
    + s.ge * 2 ^ 16
    + bit_of s.e * 2 ^ 9
    + bit_of s.a * 2 ^ 8
    + bit_of s.i * 2 ^ 7
    + bit_of s.f * 2 ^ 6
    + bit_of s.t * 2 ^ 5
    + mode_number s.mode

-- and the record of a word
unfoldable pub status_of : ℕ → Status
status_of w =
    record {
      n = w ⟨ 31 ⟩;
      z = w ⟨ 30 ⟩;
      c = w ⟨ 29 ⟩;
      v = w ⟨ 28 ⟩;
      q = w ⟨ 27 ⟩;
      ge = w ⟨ 19 ‥ 16 ⟩;
      e = w ⟨ 9 ⟩;
      a = w ⟨ 8 ⟩;
      i = w ⟨ 7 ⟩;
      f = w ⟨ 6 ⟩;
      t = w ⟨ 5 ⟩;
      mode = mode_of (w ⟨ 4 ‥ 0 ⟩);
    }

-- document 01, section 2: packing gives the word, or answers 8 when GE exceeds 15
unfoldable pub packed_of : Status → Result ℕ GeTooLarge
packed_of s = when 15 <? s.ge then Err (record {}) else Ok (word_of s)

-- the word, and 0 with answer 8
abbrev pub packed_word_of : Status → ℕ
packed_word_of s = result_unwrap_or (packed_of s) 0

-- the promises of the two public calls
abbrev pub Packs : Status → Result ℕ GeTooLarge → Type 0
Packs s r = r ≡ packed_of s

abbrev pub Unpacks : ℕ → Status → Type 0
Unpacks w r = r ≡ status_of w

-- A3.2.1, Table A3-1: the condition field; 15 leads elsewhere and tests nothing here
unfoldable pub conditions : Bool → Bool → Bool → Bool → List Bool
conditions n z c v =
    z  -- 0 EQ
    ∷ not z  -- 1 NE
    ∷ c  -- 2 CS
    ∷ not c  -- 3 CC
    ∷ n  -- 4 MI
    ∷ not n  -- 5 PL
    ∷ v  -- 6 VS
    ∷ not v  -- 7 VC
    ∷ (c && not z)  -- 8 HI
    ∷ (not c || z)  -- 9 LS
    ∷ beq n v  -- 10 GE
    ∷ not (beq n v)  -- 11 LT
    ∷ (not z && beq n v)  -- 12 GT
    ∷ (z || not (beq n v))  -- 13 LE
    ∷ []  -- 14 AL, 15

unfoldable pub passed_of : ℕ → Bool → Bool → Bool → Bool → Bool
passed_of cond n z c v = get_or (conditions n z c v) cond true

-- A2.2: every mode but User is privileged
abbrev pub privileged : Mode → Bool
privileged User = false
privileged Fiq = true
privileged Irq = true
privileged Supervisor = true
privileged Abort = true
privileged Undefined = true
privileged System = true

-- A4.1.39 MSR: each field under its own bit of the mask; outside privileged modes only the five flags; T never
unfoldable pub written_of : Status → ℕ → ℕ → Bool → Status
written_of s value mask priv =
    record {
      n = when mask ⟨ 3 ⟩ then value ⟨ 31 ⟩ else s.n;
      z = when mask ⟨ 3 ⟩ then value ⟨ 30 ⟩ else s.z;
      c = when mask ⟨ 3 ⟩ then value ⟨ 29 ⟩ else s.c;
      v = when mask ⟨ 3 ⟩ then value ⟨ 28 ⟩ else s.v;
      q = when mask ⟨ 3 ⟩ then value ⟨ 27 ⟩ else s.q;
      ge = when mask ⟨ 2 ⟩ && priv then value ⟨ 19 ‥ 16 ⟩ else s.ge;
      e = when mask ⟨ 1 ⟩ && priv then value ⟨ 9 ⟩ else s.e;
      a = when mask ⟨ 1 ⟩ && priv then value ⟨ 8 ⟩ else s.a;
      i = when mask ⟨ 0 ⟩ && priv then value ⟨ 7 ⟩ else s.i;
      f = when mask ⟨ 0 ⟩ && priv then value ⟨ 6 ⟩ else s.f;
      t = s.t;
      mode = when mask ⟨ 0 ⟩ && priv then mode_of (value ⟨ 4 ‥ 0 ⟩) else s.mode;
    }
