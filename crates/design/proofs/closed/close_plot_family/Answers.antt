-- `closed::close_plot_family` meets its contract: the family is closed and written, by the infima of its columns or from the columns.
use mathlib.Core.Path.{◌≡◌, refl}
use mathlib.Core.List.Memᴰ
use mathlib.Core.List.{List}
use Prim.Native.Nat.{ℕ}
use native.Mathlib.Omega.{arith}
use lib.ListN.{length}
use Rattle.rules.specs.Factor.{Column, equality}
use Rattle.rules.specs.Family.{◌∈◌, columns_from}
use Rattle.rules.specs.Closing.{plot_generators}
use Rattle.rules.proofs.Demand3.{column_length}
use Rattle.design.proofs.Choosing.{begun_own}
use Rattle.design.proofs.Judge.{plot_held, plot_left, plot_ready, plot_counted}
use Rattle.design.proofs.closed.close_plot_family.Goals as goal
use Rattle.design.proofs.closed.close_plot_family.Goals.{Start}

-- E is among the columns that the family starts from
has_equality_holds : (n : ℕ) (Fs : List Column) → equality n ∈ plot_generators n Fs
unfolding plot_generators
has_equality_holds n Fs = Memᴰ.tail (Memᴰ.head refl)

-- the plot columns are on n plots
on : (c : Start) (F : Column) → F ∈ columns_from c.args.n c.args.levels.now 0 c.args.columns → length F ≡ c.args.n
on c = column_length c.args.n c.args.levels.now c.args.columns 0 c.requires.1 c.requires.3 (omega (arith, c.requires.2))

pub look_crossed-requires : goal.look_crossed-requires
look_crossed-requires c =
    (c.place_plot_columns-start.ensures.held.few, c.requires.1)

pub close_by_infima-requires : goal.close_by_infima-requires
close_by_infima-requires c =
    let held = c.place_plot_columns-start.ensures.held in
    (c.requires.0, c.requires.1, c.requires.2, c.requires.3, c.requires.4, held.room, held.places, c.requires.6)

pub returns-then-look_crossed : goal.returns-then-look_crossed
returns-then-look_crossed c =
    let s = (goal.at.returns-then-look_crossed c).Start in
    let n = s.args.n in
    let Fs : List Column = columns_from n s.args.levels.now 0 s.args.columns in
    let l = c.close_by_infima.ensures in record {
      family = plot_held n s.requires.1 s.requires.0 Fs (on s) _ _ _ s.requires.4 _ l;
      buffer = plot_left n s.requires.1 s.requires.0 Fs (on s) _ _ _ s.requires.4 _ l;
      tables = plot_ready n s.requires.1 s.requires.0 Fs (on s) _ _ _ s.requires.4 _ l;
    }

pub close_columns-requires : goal.close_columns-requires
close_columns-requires c =
    (begun_own c.place_plot_columns-start.ensures, c.place_plot_columns-start.ensures.given _ (has_equality_holds c.args.n (columns_from c.args.n c.args.levels.now 0 c.args.columns)), c.requires.6, c.requires.4)

pub returns : goal.returns
returns c =
    let s = (goal.at.returns c).Start in
    let n = s.args.n in
    let Fs : List Column = columns_from n s.args.levels.now 0 s.args.columns in
    let l = plot_counted n Fs _ _ _ _ (c.close_columns.ensures (plot_generators n Fs) c.place_plot_columns-start.ensures) in record {
      family = plot_held n s.requires.1 s.requires.0 Fs (on s) _ _ _ s.requires.4 _ l;
      buffer = plot_left n s.requires.1 s.requires.0 Fs (on s) _ _ _ s.requires.4 _ l;
      tables = plot_ready n s.requires.1 s.requires.0 Fs (on s) _ _ _ s.requires.4 _ l;
    }
