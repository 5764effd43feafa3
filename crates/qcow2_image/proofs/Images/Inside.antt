-- References and copied marks of guest clusters, if the data are in the image's own file.
use Rattle.std.proofs.Common.{◌≡◌, ℕ}
use Rattle.qcow2_image.proofs.Common.{Bytes, HeaderFields, cover, named_by_cover, names, own_names, own_data_of}

pub names_inside : (h : HeaderFields) → h.incompatible ≡ 0 → (b : Bytes) (c g : ℕ) → names h b c g ≡ named_by_cover h c (cover h b g)
names_inside h inside b c g = own_names h c (cover h b g) (own_data_of h inside)
