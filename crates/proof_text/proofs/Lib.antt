mod Fronts
