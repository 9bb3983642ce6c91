use Rattle.std.proofs.Common.{◌≡◌, ◌+◌, ◌-◌, length, take, drop, refl, ◌∙◌, arith}
use Rattle.std.proofs.lemmas.List.{length-take, length-drop}
use Rattle.packed.proofs.Shifts.{before_part, turned_right, turned_left}
use Rattle.packed.proofs.make_room.Goals as goal

pub returns-then-wanted-old : goal.returns-then-wanted-old
returns-then-wanted-old g c =
    let old = c.args.old in
    let n = c.args.end + (c.args.wanted - old.length) - old.start in
    let long : length (take n (drop old.start c.args.area.now)) ≡ n = simp (length-take, length-drop) (omega arith) in
    record {
      before = λ j d h. before_part old.start c.args.area.now _ j d (omega arith) h;
      behind = λ j d h. turned_right c.args.area.now c.rotate_right.new.self _ old.start old.length c.args.end c.args.wanted j n (c.args.wanted - old.length) d (omega arith) (omega arith) (omega arith) (omega arith) h refl refl (c.rotate_right.ensures.len ∙ long) c.rotate_right.ensures.by_index.1;
    }

pub returns : goal.returns
returns g c =
    let old = c.args.old in
    let n = c.args.end - old.start in
    let long : length (take n (drop old.start c.args.area.now)) ≡ n = simp (length-take, length-drop) (omega arith) in
    record {
      before = λ j d h. before_part old.start c.args.area.now _ j d (omega arith) h;
      behind = λ j d h. turned_left c.args.area.now c.rotate_left.new.self _ old.start old.length c.args.end c.args.wanted j n (old.length - c.args.wanted) d (omega arith) (omega arith) (omega arith) h refl refl (c.rotate_left.ensures.len ∙ long) c.rotate_left.ensures.by_index.0;
    }
