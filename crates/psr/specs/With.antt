-- A status record with one field replaced: the only definitions, beside those that pack and unpack, that list the fields.
use Rattle.std.specs.Prelude.{Bool, ℕ}
use Rattle.psr.specs.declared.Mode.{Mode}
use Rattle.psr.specs.declared.Status.{Status}

abbrev pub with_n : Status → Bool → Status
with_n s x = record { n = x; z = s.z; c = s.c; v = s.v; q = s.q; ge = s.ge; e = s.e; a = s.a; i = s.i; f = s.f; t = s.t; mode = s.mode }

abbrev pub with_z : Status → Bool → Status
with_z s x = record { n = s.n; z = x; c = s.c; v = s.v; q = s.q; ge = s.ge; e = s.e; a = s.a; i = s.i; f = s.f; t = s.t; mode = s.mode }

abbrev pub with_c : Status → Bool → Status
with_c s x = record { n = s.n; z = s.z; c = x; v = s.v; q = s.q; ge = s.ge; e = s.e; a = s.a; i = s.i; f = s.f; t = s.t; mode = s.mode }

abbrev pub with_v : Status → Bool → Status
with_v s x = record { n = s.n; z = s.z; c = s.c; v = x; q = s.q; ge = s.ge; e = s.e; a = s.a; i = s.i; f = s.f; t = s.t; mode = s.mode }

abbrev pub with_q : Status → Bool → Status
with_q s x = record { n = s.n; z = s.z; c = s.c; v = s.v; q = x; ge = s.ge; e = s.e; a = s.a; i = s.i; f = s.f; t = s.t; mode = s.mode }

abbrev pub with_ge : Status → ℕ → Status
with_ge s x = record { n = s.n; z = s.z; c = s.c; v = s.v; q = s.q; ge = x; e = s.e; a = s.a; i = s.i; f = s.f; t = s.t; mode = s.mode }

abbrev pub with_e : Status → Bool → Status
with_e s x = record { n = s.n; z = s.z; c = s.c; v = s.v; q = s.q; ge = s.ge; e = x; a = s.a; i = s.i; f = s.f; t = s.t; mode = s.mode }

abbrev pub with_a : Status → Bool → Status
with_a s x = record { n = s.n; z = s.z; c = s.c; v = s.v; q = s.q; ge = s.ge; e = s.e; a = x; i = s.i; f = s.f; t = s.t; mode = s.mode }

abbrev pub with_i : Status → Bool → Status
with_i s x = record { n = s.n; z = s.z; c = s.c; v = s.v; q = s.q; ge = s.ge; e = s.e; a = s.a; i = x; f = s.f; t = s.t; mode = s.mode }

abbrev pub with_f : Status → Bool → Status
with_f s x = record { n = s.n; z = s.z; c = s.c; v = s.v; q = s.q; ge = s.ge; e = s.e; a = s.a; i = s.i; f = x; t = s.t; mode = s.mode }

abbrev pub with_t : Status → Bool → Status
with_t s x = record { n = s.n; z = s.z; c = s.c; v = s.v; q = s.q; ge = s.ge; e = s.e; a = s.a; i = s.i; f = s.f; t = x; mode = s.mode }

abbrev pub with_mode : Status → Mode → Status
with_mode s x = record { n = s.n; z = s.z; c = s.c; v = s.v; q = s.q; ge = s.ge; e = s.e; a = s.a; i = s.i; f = s.f; t = s.t; mode = x }

-- N and Z, and all four condition flags
abbrev pub with_nz : Status → Bool → Bool → Status
with_nz s n z = with_z (with_n s n) z

abbrev pub with_nzcv : Status → Bool → Bool → Bool → Bool → Status
with_nzcv s n z c v = with_v (with_c (with_nz s n z) c) v
