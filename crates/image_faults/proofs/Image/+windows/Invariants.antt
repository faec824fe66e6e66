use Rattle.image_faults.proofs.Image.+windows.Given as goal

abbrev pub decreases-windows : goal.decreases-windows
decreases-windows l = l.b
