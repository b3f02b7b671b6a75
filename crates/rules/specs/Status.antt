-- KTCS: its bits, what a store into it does, and its error flags (01, "Registers").
use Rattle.std.specs.Prelude.{ℕ, ◌+◌, ◌/◌, ◌%◌, Bool, false, not, ◌||◌, eqb}
use Rattle.rules.specs.Types.{Ktcs, Part}
use Rattle.rules.specs.Choice.{pick}

-- the value of one bit
unfoldable pub bit_of : Bool → ℕ → ℕ
bit_of b v = pick b v 0

-- the bit whose value is v, out of a word
unfoldable pub bit_in : ℕ → ℕ → Bool
bit_in w v = eqb (w / v % 2) 1

-- "KTCS (H): FCN bits 1-0, SS 2, DS 3, UM 4, IU 5, RV 11, PV 12, WV 13, AV 14, IV 15; others read 0.": FCN by its
-- two bits, every other field by its one
unfoldable pub packed : Ktcs → ℕ
packed s =
    s.fcn % 4 + bit_of s.ss 0o4 + bit_of s.ds 0o10 + bit_of s.um 0o20 + bit_of s.iu 0o40 + bit_of s.rv 0o4000 + bit_of s.pv 0o10000
    + bit_of s.wv 0o20000 + bit_of s.av 0o40000 + bit_of s.iv 0o100000

-- and back
unfoldable pub unpacked : ℕ → Ktcs
unpacked w =
    record {
      fcn = w % 4;
      ss = bit_in w 0o4;
      ds = bit_in w 0o10;
      um = bit_in w 0o20;
      iu = bit_in w 0o40;
      rv = bit_in w 0o4000;
      pv = bit_in w 0o10000;
      wv = bit_in w 0o20000;
      av = bit_in w 0o40000;
      iv = bit_in w 0o100000;
    }

-- KTCS with FCN, UM and IU changed, and nothing else
unfoldable pub with_modes : Ktcs → ℕ → Bool → Bool → Ktcs
with_modes s fcn um iu =
    record {
      fcn = fcn;
      ss = s.ss;
      ds = s.ds;
      um = um;
      iu = iu;
      rv = s.rv;
      pv = s.pv;
      wv = s.wv;
      av = s.av;
      iv = s.iv;
    }

-- with SS and DS changed
unfoldable pub with_states : Ktcs → Bool → Bool → Ktcs
with_states s ss ds =
    record {
      fcn = s.fcn;
      ss = ss;
      ds = ds;
      um = s.um;
      iu = s.iu;
      rv = s.rv;
      pv = s.pv;
      wv = s.wv;
      av = s.av;
      iv = s.iv;
    }

-- with the five error flags changed
unfoldable pub with_flags : Ktcs → Bool → Bool → Bool → Bool → Bool → Ktcs
with_flags s rv pv wv av iv =
    record {
      fcn = s.fcn;
      ss = s.ss;
      ds = s.ds;
      um = s.um;
      iu = s.iu;
      rv = rv;
      pv = pv;
      wv = wv;
      av = av;
      iv = iv;
    }

-- "if bits 15-11 are clear"
unfoldable pub flags_clear : Ktcs → Bool
flags_clear s = not (s.rv || s.pv || s.wv || s.av || s.iv)

-- FCN after a store: "a store that covers bits 1-0 sets FCN"
unfoldable pub fcn_stored : ℕ → Part → ℕ → ℕ
fcn_stored fcn Part.Whole v = v % 4
fcn_stored fcn Part.Low v = v % 4
fcn_stored fcn Part.High v = fcn

-- "Any store into it, byte or word, clears IU and bits 15-11; a store that covers bits 1-0 sets FCN. Nothing else there is writable."
unfoldable pub ktcs_stored : Ktcs → Part → ℕ → Ktcs
ktcs_stored s p v = with_flags (with_modes s (fcn_stored s.fcn p v) s.um false) false false false false false
