-- Workers with their sessions: streams one after another, and seats that are filled and emptied
-- from the end.
use Rattle.std.proofs.Common.{◌≡◌, ◌≢◌, refl, List, [], ◌∷◌, ◌++◌, length, map, reverse, Option}
use Rattle.std.proofs.Common.{Some, arith, rules, suc}
use mathlib.Core.List.{reverse_aux}
use Rattle.std.proofs.lemmas.List.{reverse-reverse}
use Rattle.shelf.specs.Store.{StoreId}
use Rattle.shelf.specs.Roles.{ReaderView}
use Rattle.line_io.specs.declared.end.End.{End}
use Rattle.line_io.specs.declared.end.End.TheVariants as ends
use Rattle.proto.specs.Callers.{free}
use Rattle.proto.specs.Served.{IsServed}
use Rattle.proto.specs.Pools.{AreBoth, AreEach, AreRelated, AreStreamsServed, HasWorked}
use Rattle.proto.specs.Pools.{IsStreamServed}
use Rattle.metric.specs.Wire.{Wire}

-- streams that were served, and one more that was served after them, are streams that were served
AreStreamsServed-more : {S : Type 0} (fresh : S → Type 0) (wire : S → Wire) (store : StoreId)
    (streams : List S) (stream : S) (old between new : ReaderView) →
    AreStreamsServed fresh wire store streams old between
    → IsStreamServed fresh wire store stream between new
    → AreStreamsServed fresh wire store (streams ++ stream ∷ []) old new
AreStreamsServed-more fresh wire store [] stream old between new here served =
    (new, rw here at served, refl)
AreStreamsServed-more fresh wire store (s ∷ ss) stream old between new
    (middle, first, others) served = (
      middle,
      first,
      AreStreamsServed-more fresh wire store ss stream middle between new others served,
    )

-- a worker that has served a stream after others has worked
HasWorked-more : {S : Type 0} (fresh : S → Type 0) (wire : S → Wire) (store : StoreId) (stream : S)
    (old between new : ReaderView) →
    HasWorked fresh wire store old between → IsStreamServed fresh wire store stream between new
    → HasWorked fresh wire store old new
HasWorked-more fresh wire store stream old between new worked served =
    record {
      streams = worked.streams ++ stream ∷ [];
      served = AreStreamsServed-more fresh wire store worked.streams stream old between new
          worked.served served;
    }

-- a worker has worked where it served a fresh stream, or had no memory for it and kept its session
pub HasWorked-next : {S : Type 0} (fresh : S → Type 0) (wire : S → Wire) (store : StoreId)
    (stream : S) (end : End) (wire_after : Wire) (old between new : ReaderView) →
    HasWorked fresh wire store old between → fresh stream
    → (end ≢ ends.Memory
    → IsServed store (Some end) (wire stream) (free between) wire_after (free new))
    → (end ≡ ends.Memory → new ≡ between)
    → HasWorked fresh wire store old new
HasWorked-next fresh wire store stream ends.Memory wire_after old between new worked new_one served
    same = rw (same refl) worked
HasWorked-next fresh wire store stream end wire_after old between new worked new_one served same =
    HasWorked-more fresh wire store stream old between new worked
    (record {
      is_fresh = new_one;
      end = end;
      wire_after = wire_after;
      served = served (search rules);
    })

-- lists whose elements are related stay so where each is reversed onto one of two lists that are
-- related
AreRelated-onto : {A B : Type 0} (Relation : A → B → Type 0) (xs before_xs : List A)
    (ys before_ys : List B) →
    AreRelated Relation xs ys → AreRelated Relation before_xs before_ys
    → AreRelated Relation (reverse_aux xs before_xs) (reverse_aux ys before_ys)
AreRelated-onto Relation [] before_xs [] before_ys none others = others
AreRelated-onto Relation (x ∷ xs) before_xs (y ∷ ys) before_ys (first, more) others =
    AreRelated-onto Relation xs (x ∷ before_xs) ys (y ∷ before_ys) more (first, others)
AreRelated-onto Relation xs before_xs ys before_ys none others = elim none [ ]

-- two lists of one length are related where the elements of each place are
AreRelated-each : {A : Type 0} (Relation : A → A → Type 0) (xs ys : List A) → length ys ≡ length xs
    → AreEach Relation xs ys → AreRelated Relation xs ys
AreRelated-each Relation [] [] as_many each = tt
AreRelated-each Relation (x ∷ xs) (y ∷ ys) as_many each = (
  each 0 x (omega arith),
  AreRelated-each Relation xs ys (cc) (λ i d below. each (suc i) d
      (omega arith)),
)
AreRelated-each Relation _ _ as_many each = absurd (omega (arith, as_many))

-- two lists whose elements are related as options are related themselves
AreRelated-some : {A : Type 0} (Relation : A → A → Type 0) (xs ys : List A)
    → AreRelated (AreBoth Relation) (map Some xs) (map Some ys) → AreRelated Relation xs ys
AreRelated-some Relation [] [] related = tt
AreRelated-some Relation (x ∷ xs) (y ∷ ys) (first, others) =
    (first, AreRelated-some Relation xs ys others)
AreRelated-some Relation _ _ related = related

-- seats that were filled from the end, changed one by one, and emptied from the end have related
-- sessions
pub AreRelated-seats : {A : Type 0} (Relation : A → A → Type 0) (xs ys : List A)
    (before after : List (Option A)) →
    before ≡ reverse (map Some xs) → length after ≡ length before
    → AreEach (AreBoth Relation) before after → map Some ys ≡ reverse after
    → AreRelated Relation xs ys
AreRelated-seats Relation xs ys before after filled as_many each emptied =
    let related = AreRelated-onto (AreBoth Relation) before [] after []
    (AreRelated-each (AreBoth Relation) before after as_many each) tt in
    AreRelated-some Relation xs ys (rw (emptied, ← reverse-reverse (map Some xs), ← filled) related)
