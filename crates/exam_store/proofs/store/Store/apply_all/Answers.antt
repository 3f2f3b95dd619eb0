-- The commands walked so far have their replies. There is room for all of them before the first one.
use Rattle.std.proofs.Common.{◌≡◌, ◌+◌, ◌∷◌, ◌++◌, [], take, ap, sym, subst, ◌∙◌, arith}
use Rattle.std.proofs.lemmas.List.{take_more}
use Rattle.sqlite.specs.Held.{state}
use Rattle.sqlite.specs.State.{HasCleanDisk}
use Rattle.exam_store.specs.Applied.{Applies, AreApplied}
use Rattle.exam_tables.specs.Transactions.{IsSound}
use Rattle.exam_store.proofs.Applying.{applies_more, applied_more}
use Rattle.exam_store.proofs.store.Store.apply_all.Goals as goal

pub commands-preserved : goal.commands-preserved
commands-preserved g c =
    let i = c.commands.command-index in
    let done = c.args.commands.now in
    let x = c.commands-item.result in
    let before = c.args.self.now.office in
    let after = c.apply.new.self.office in
    let made = c.apply.ensures.made in
    let now = state g.S.Store c.commands.self.database in
    let back = λ (sound : IsSound (state g.S.Store c.apply.new.self.database)). let clean : HasCleanDisk now =
    omega (arith, made.survives.clean, sound.0) in let was : IsSound now = (clean, made.was_open sound) in was in
    let more : take (i + 1) done ≡ take i done ++ x ∷ [] =
    take_more done i x c.commands-test.true ∙ ap (λ z. take i done ++ z ∷ []) (sym c.commands-item.is) in
    record {
      so_far = subst (λ xs. Applies xs before c.push_reserved.new.self.items after) (sym more)
          (subst (λ rs. Applies (take i done ++ x ∷ []) before rs after) (sym c.push_reserved.ensures.items)
          (applies_more (take i done) x c.commands.replies.items c.apply.result before c.commands.self.office after
          c.commands.invariant.so_far c.apply.ensures.step));
      each = subst (λ xs. AreApplied g.S.Store xs c.args.self.now c.push_reserved.new.self.items c.apply.new.self)
          (sym more)
          (subst (λ rs. AreApplied g.S.Store (take i done ++ x ∷ []) c.args.self.now rs c.apply.new.self)
          (sym c.push_reserved.ensures.items)
          (applied_more g.S.Store
          (take i done) x c.commands.replies.items c.apply.result c.args.self.now c.commands.self c.apply.new.self
          c.commands.invariant.each
          (record {
            step = c.apply.ensures.step;
            made = made;
            refusal = c.apply.ensures.refusal;
            shut = c.apply.ensures.shut;
          })));
      kept = λ sound was. c.apply.ensures.kept sound (c.commands.invariant.kept (back sound) was);
      was_open = λ sound. c.commands.invariant.was_open (back sound);
      answered = omega (arith, c.push_reserved.ensures.len, c.commands.invariant.answered);
      room = omega (arith, c.push_reserved.ensures.capacity, c.commands.invariant.room);
    }
