-- The machine as 54 little-endian words, 216 bytes, and back; an answer as three words, or four.
use Rattle.std.specs.Prelude.{Option, Some, None, List, [], ◌∷◌, ◌++◌, map, ℕ, zero, suc, ◌+◌, ◌*◌, get_or, ◌==◌}
use Rattle.bits.specs.Cases.{when◌then◌else◌, ◌≤?◌}
use Rattle.bits.specs.Words.{lanes_of}
use Rattle.psr.specs.declared.Status.{Status}
use Rattle.psr.specs.Status.{status_of, packed_word_of}
use Rattle.psr.specs.With.{with_ge}
use Rattle.memory.specs.Bytes.{word_at}
use Rattle.cpu.specs.Answers.{no_status}
use Rattle.cpu.specs.declared.Machine.{Machine}
use Rattle.cpu.specs.declared.Report.{Report}

-- word i of the bytes, and n words from word i on
abbrev pub word : List ℕ → ℕ → ℕ
word l i = word_at l (4 * i)

unfoldable pub words_from : List ℕ → ℕ → ℕ → List ℕ
words_from l i zero = []
words_from l i (suc n) = word l i ∷ words_from l (i + 1) n

-- the bytes of words, one word behind the other, the lowest byte of each first
unfoldable pub bytes_of : List ℕ → List ℕ
bytes_of [] = []
bytes_of (w ∷ ws) = lanes_of w ++ bytes_of ws

-- a GE number of 32 bits as the byte of a record: what exceeds a byte exceeds 15 either way
unfoldable pub ge_byte_of : ℕ → ℕ
ge_byte_of ge = when ge ≤? 255 then ge else 255

-- the status record whose word is word i; its GE is the number seven words further
abbrev pub record_at : List ℕ → ℕ → Status
record_at l i = with_ge (status_of (word l i)) (ge_byte_of (word l (i + 7)))

-- the tag: word 52 says whether there is one, word 53 is its address
unfoldable pub tag_of : List ℕ → Option ℕ
tag_of l = when word l 52 == 0 then None else Some (word l 53)

-- the way in
unfoldable pub state_of : List ℕ → Machine
state_of l =
    record {
      regs = words_from l 0 16;
      cpsr = record_at l 16;
      spsr = record_at l 17;
      saved = record_at l 18 ∷ record_at l 19 ∷ record_at l 20 ∷ record_at l 21 ∷ record_at l 22 ∷ [];
      banked = words_from l 30 12;
      fiq = words_from l 42 5;
      user = words_from l 47 5;
      tag = tag_of l;
    }

-- the banked status records, 0 to 4: FIQ, IRQ, Supervisor, Abort, Undefined
abbrev pub banked_record_of : Machine → ℕ → Status
banked_record_of m b = get_or m.saved b no_status

-- the seven status records: current, saved, banked
abbrev pub records_of : Machine → List Status
records_of m =
    m.cpsr
    ∷ m.spsr
    ∷ banked_record_of m 0
    ∷ banked_record_of m 1
    ∷ banked_record_of m 2
    ∷ banked_record_of m 3
    ∷ banked_record_of m 4
    ∷ []

-- the GE of a record, beside its packed word
abbrev pub ge_number_of : Status → ℕ
ge_number_of s = s.ge

abbrev pub tag_words_of : Option ℕ → List ℕ
tag_words_of None = 0 ∷ 0 ∷ []
tag_words_of (Some a) = 1 ∷ a ∷ []

-- the way out
unfoldable pub state_words_of : Machine → List ℕ
state_words_of m =
    m.regs  -- 0 to 15
    ++ map packed_word_of (records_of m)  -- 16 to 22
    ++ map ge_number_of (records_of m)  -- 23 to 29
    ++ m.banked  -- 30 to 41
    ++ m.fiq  -- 42 to 46
    ++ m.user  -- 47 to 51
    ++ tag_words_of m.tag  -- 52 and 53

abbrev pub state_bytes_of : Machine → List ℕ
state_bytes_of m = bytes_of (state_words_of m)

-- an answer's number and values, and for a run its count
abbrev pub report_bytes_of : Report → List ℕ
report_bytes_of r = bytes_of (r.number ∷ r.first ∷ r.second ∷ [])

abbrev pub counted_bytes_of : Report → ℕ → List ℕ
counted_bytes_of r count = bytes_of (r.number ∷ r.first ∷ r.second ∷ count ∷ [])
