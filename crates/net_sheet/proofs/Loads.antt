-- The netlist that was loaded is the netlist of the sheet: a record that is there, one turn of the loop over the records, and what the three loads leave.
use mathlib.Core.Path.{◌≡◌, refl, ap}
use mathlib.Core.Bool.{cond}
use mathlib.Core.List.{List}
use Prim.Native.Nat.{ℕ, ◌+◌, ◌*◌, ◌/◌, ◌<◌, ◌≤◌, min}
use native.Mathlib.Omega.{arith}
use borrow.Author.Tests.{le-leb, lt-leb}
use lib.ListN.{length, get_or, set, replicate, take, drop}
use Rattle.base.specs.Bytes.{two_at}
use Rattle.base.specs.Lists.{fill}
use Rattle.base.proofs.Fill.{fill_step, fill_clipped}
use Rattle.layout.proofs.Loads.{stretch_loaded}
use Rattle.codes.specs.declared.Record.{Record}
use Rattle.netlist.specs.declared.Netlist.{Netlist}
use Rattle.netlist.specs.Netlists.{no_net}
use Rattle.net_sheet.specs.Reading.{record_at, record_there, no_record, net_from}

-- a record is there where the sheet has its bytes
pub is_there : (s : List ℕ) (i : ℕ) → i * 12 + 12 ≤ length s → record_there s i ≡ record_at s i
unfolding record_there
is_there s i h = ap (λ b. cond b (record_at s i) no_record) (le-leb (i * 12 + 12) (length s) h)

pub not_there : (s : List ℕ) (i : ℕ) → length s < i * 12 + 12 → record_there s i ≡ no_record
unfolding record_there
not_there s i h = ap (λ b. cond b (record_at s i) no_record) (lt-leb (i * 12 + 12) (length s) h)

-- a netlist with the fields of the first n records of a sheet
abbrev pub loaded : List ℕ → ℕ → Netlist → Netlist
loaded s n old =
    record old {
      code = fill (λ i. (record_at s i).code) n old.code;
      width = fill (λ i. (record_at s i).width) n old.width;
      a = fill (λ i. (record_at s i).a) n old.a;
      b = fill (λ i. (record_at s i).b) n old.b;
      c = fill (λ i. (record_at s i).c) n old.c;
      k = fill (λ i. (record_at s i).k) n old.k;
    }

pub loaded_none : (s : List ℕ) (old : Netlist) → old ≡ loaded s 0 old
unfolding fill
loaded_none s old = refl

pub loaded_step : (s : List ℕ) (i : ℕ) (old l : Netlist) (r : Record) → l ≡ loaded s i old → r ≡ record_at s i
    → ◌≡◌ {A = Netlist}
    (record l { code = set l.code i r.code; width = set l.width i r.width; a = set l.a i r.a; b = set l.b i r.b; c = set l.c i r.c; k = set l.k i r.k })
    (loaded s (i + 1) old)
loaded_step s i old l r e h =
    rw (e, h)
    (λ j.
    record old {
      code = fill_step (λ m. (record_at s m).code) i _ old.code _ refl refl j;
      width = fill_step (λ m. (record_at s m).width) i _ old.width _ refl refl j;
      a = fill_step (λ m. (record_at s m).a) i _ old.a _ refl refl j;
      b = fill_step (λ m. (record_at s m).b) i _ old.b _ refl refl j;
      c = fill_step (λ m. (record_at s m).c) i _ old.c _ refl refl j;
      k = fill_step (λ m. (record_at s m).k) i _ old.k _ refl refl j;
    })

-- what a loop does not store past a list's end, the definition does not either
clipped : (f : ℕ → ℕ) (n m : ℕ) (xs : List ℕ) → length xs ≡ m → fill f (min n m) xs ≡ fill f n xs
clipped f n m xs long = fill_clipped f n m (min n m) xs (fill f (min n m) xs) refl refl long

module _ (s : List ℕ) (F M L : ℕ) where
  pub net_from_is : (z l : Netlist) (nodes outputs bytes : ℕ) (output label : List ℕ)
      → F + (M + L) ≤ length s
      → z ≡ no_net
      → l ≡ loaded s nodes (record z { nodes = F / 12; outputs = M / 2; labels = L })
      → nodes ≡ min (F / 12) 1024
      → output ≡ fill (λ j. two_at s (F + j * 2)) outputs l.output
      → outputs ≡ min (M / 2) 64
      → label ≡ fill (λ j. get_or (take bytes (drop (F + M) s)) j 0) (length (take bytes (drop (F + M) s))) l.label
      → bytes ≡ L
      → ◌≡◌ {A = Netlist} (record l { output = output; label = label }) (net_from s F M L)
  unfolding net_from no_net
  net_from_is z l nodes outputs bytes output label h e1 e2 e3 e4 e5 e6 e7 =
      rw (e4, e6, e7, stretch_loaded s (F + M) L l.label (omega arith), e2, e1, e3, e5)
      (λ j.
      record {
        nodes = F / 12;
        code = clipped (λ i. (record_at s i).code) (F / 12) 1024 (replicate 1024 0) refl j;
        width = clipped (λ i. (record_at s i).width) (F / 12) 1024 (replicate 1024 0) refl j;
        a = clipped (λ i. (record_at s i).a) (F / 12) 1024 (replicate 1024 0) refl j;
        b = clipped (λ i. (record_at s i).b) (F / 12) 1024 (replicate 1024 0) refl j;
        c = clipped (λ i. (record_at s i).c) (F / 12) 1024 (replicate 1024 0) refl j;
        k = clipped (λ i. (record_at s i).k) (F / 12) 1024 (replicate 1024 0) refl j;
        outputs = M / 2;
        output = clipped (λ i. two_at s (F + i * 2)) (M / 2) 64 (replicate 64 0) refl j;
        labels = L;
        label = fill (λ i. get_or s (F + M + i) 0) L (replicate 4096 0);
      })
